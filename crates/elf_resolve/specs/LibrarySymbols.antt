-- What the symbols of a shared library are to their keys, by the bytes of the library.
use Rattle.std.specs.Prelude.{ℕ, ◌==◌, ◌&&◌, ◌||◌, bit_and, nat_lt, not, if◌then◌else◌, Bool, false, true, List, None}
use Rattle.elf_model.specs.LinkSymbols.{is_weak_use}
use Rattle.elf_model.specs.Numbers.{SHF_ALLOC, SHN_ABS, SHN_LORESERVE, SHN_UNDEF, SHT_NOBITS, STT_FUNC, STT_GNU_IFUNC}
use Rattle.elf_model.specs.Records.{e_shnum, section_at, sh_flags, sh_type, st_shndx, st_size, st_type}
use Rattle.elf_model.specs.declared.link_states.SharedKind.{SharedKind}
use Rattle.elf_model.specs.declared.link_states.SharedKind.TheVariants.{Function, NoBits, Absolute, Other}
use Rattle.elf_model.specs.declared.link_states.SymbolRole.{SymbolRole}
use Rattle.elf_model.specs.declared.link_states.SymbolRole.TheVariants.{WeakReference, Reference}
use Rattle.elf_model.specs.declared.link_states.SymbolRole.TheVariants as role
use Rattle.elf_model.specs.declared.link_states.SymbolUse.{SymbolUse}

-- a symbol is a function, or one that is found by a call
abbrev pub is_function : List ℕ → ℕ → Bool
is_function file at = st_type file at == STT_FUNC || st_type file at == STT_GNU_IFUNC

-- a section of an index takes memory and has no bytes in the file
abbrev pub is_zeroed : List ℕ → (section : ℕ) → Bool
is_zeroed file section =
    sh_type file (section_at file section) == SHT_NOBITS && not (bit_and (sh_flags file (section_at file section)) SHF_ALLOC == 0)

-- a symbol has bytes in such a section
abbrev pub is_in_zeroed : List ℕ → ℕ → Bool
is_in_zeroed file at =
    nat_lt (st_shndx file at) SHN_LORESERVE && nat_lt (st_shndx file at) (e_shnum file)
    && is_zeroed file (st_shndx file at) && nat_lt 0 (st_size file at)

-- WHAT A DEFINITION IS
abbrev pub shared_kind : List ℕ → ℕ → SharedKind
shared_kind file at =
    if is_function file at then Function
    else if st_shndx file at == SHN_ABS then Absolute
    else if is_in_zeroed file at then NoBits (st_size file at)
    else Other

-- WHAT A SYMBOL IS to its keys
abbrev pub library_role : List ℕ → ℕ → SymbolRole
library_role file at =
    if not (st_shndx file at == SHN_UNDEF) then role.Shared (record { weak = is_weak_use file at; kind = shared_kind file at })
    else if is_weak_use file at then WeakReference
    else Reference

-- how a symbol of a library uses them
abbrev pub library_use : SymbolRole → SymbolUse
library_use role = record { role = role; restricted = false; dropped = false; of_library = true; absolute = None }
