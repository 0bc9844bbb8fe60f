-- A layout: the addresses that are given for sections, names and the entries of names in the
-- procedure linkage table and in the global offset table; and what B and P are in it (psABI 4.4,
-- Relocation). A relocation entry is at an offset `rela` of the file, and its symbol at another.
use Rattle.std.specs.Prelude.{ℕ, ◌+◌, ◌%◌, ◌^◌, ◌==◌, ◌&&◌, ◌||◌, nat_lt, not, if◌then◌else◌, Bool, true, false, List, [], ◌∷◌, length, Option, None, Some, Result, Ok, Err}
use Rattle.elf_model.specs.Names.{same}
use Rattle.elf_model.specs.Numbers.{SHN_UNDEF, SHN_LORESERVE, SHN_ABS, SHN_COMMON, STB_WEAK, STT_GNU_IFUNC, STT_LOOS}
use Rattle.elf_model.specs.Records.{st_name, st_shndx, st_value, st_bind, st_type, r_offset}
use Rattle.elf_model.specs.declared.causes.Cause.{Cause}
use Rattle.elf_model.specs.declared.causes.Cause.TheVariants.{Unplaced, Undefined, Unsupported}
use Rattle.elf_model.specs.declared.causes.Refusal.{Refusal}
use Rattle.elf_model.specs.declared.relocation_types.RelocationBase.{RelocationBase}
use Rattle.elf_model.specs.declared.relocation_types.RelocationBase.TheVariants.{Symbol, Linkage, Table, Thread}

-- how a symbol's name is searched among names of a layout: each of these is compared with it in the
-- file, or as much of it is read as the longest of them has, and searched for
pub data NameSearch : Type 0 where
  Compared : NameSearch
  Searched : NameSearch

-- sections by their index; by their name definitions, procedure linkage table entries, global
-- offset table entries, and those of offsets from the thread pointer; each with its address, in the
-- order in which they were given
pub record Layout : Type 0 where
  pub lookup : NameSearch
  pub sections : List (ℕ × ℕ)
  pub definitions : List (List ℕ × ℕ)
  pub linkage : List (List ℕ × ℕ)
  pub table : List (List ℕ × ℕ)
  pub thread : List (List ℕ × ℕ)

-- the address of a section
unfoldable pub address_in : List (ℕ × ℕ) → ℕ → Option ℕ
address_in [] section = None
address_in (item ∷ items) section = elim (item.0 == section) [ true ↦ Some item.1 | false ↦ address_in items section ]

-- the address of the first item whose name is the one at an index of a string table; a name that
-- cannot be compared before that is the fault. Without items the name is not read
unfoldable pub address_named : List ℕ → ℕ → List (List ℕ × ℕ) → Result (Option ℕ) Cause
address_named strings index [] = Ok None
address_named strings index (item ∷ items) =
    elim (same strings index item.0) [
      | Err cause ↦ Err cause
      | Ok equal ↦ elim equal [ true ↦ Ok (Some item.1) | false ↦ address_named strings index items ]
    ]

-- a refusal at an offset in place of a value
abbrev refusal_at : {A : Type 0} → ℕ → Cause → Result A Refusal
refusal_at at cause = Err (record { at = at; cause = cause })

-- an address that is searched for by a symbol's name, or a value in its place if there is none; the
-- name's fault is at the symbol
abbrev pub named_or : ℕ → Result (Option ℕ) Cause → Result ℕ Refusal → Result ℕ Refusal
named_or symbol (Err cause) other = refusal_at symbol cause
named_or symbol (Ok None) other = other
named_or symbol (Ok (Some address)) other = Ok address

-- an offset from an address, modulo 2^64; without an address the entry is refused
abbrev pub placed_at : ℕ → Option ℕ → ℕ → Result ℕ Refusal
placed_at rela None offset = refusal_at rela Unplaced
placed_at rela (Some address) offset = Ok ((address + offset) % 2 ^ 64)

-- the value of an undefined or common symbol without a definition: 0 if it is undefined and weak,
-- otherwise the entry is refused (gABI 4, Symbol Binding)
abbrev pub undefined_value : List ℕ → ℕ → ℕ → Result ℕ Refusal
undefined_value file rela symbol =
    if st_shndx file symbol == SHN_UNDEF && st_bind file symbol == STB_WEAK then Ok 0 else refusal_at rela Undefined

-- the address of a symbol's entry, if it is among some items; otherwise the relocation entry is
-- refused as one of a type that is not applied
unfoldable pub entry_value : List (List ℕ × ℕ) → List ℕ → List ℕ → ℕ → ℕ → Result ℕ Refusal
entry_value items file strings rela symbol =
    named_or symbol (address_named strings (st_name file symbol) items) (refusal_at rela Unsupported)

-- a symbol with this section index is defined in the file: in one of its sections, or as absolute
-- (gABI 4, Special Section Indexes)
abbrev pub is_defined : ℕ → Bool
is_defined index = index == SHN_ABS || (not (index == SHN_UNDEF) && nat_lt index SHN_LORESERVE)

-- the symbol is defined in the file, and the meaning of its value is specific to the operating
-- system or the processor: its type is one from STT_LOOS to STT_HIPROC (gABI 4, Symbol Types)
unfoldable pub is_system_specific : List ℕ → ℕ → Bool
is_system_specific file symbol = is_defined (st_shndx file symbol) && not (nat_lt (st_type file symbol) STT_LOOS)

-- S of such a symbol. At the value of an indirect function is the function that returns the address
-- to use: calls and pointers go to its procedure linkage table entry, if the layout has one.
-- Without one, and for any other type, the relocation entry is refused
unfoldable pub system_value : List ℕ → List ℕ → Layout → ℕ → ℕ → Result ℕ Refusal
system_value file strings layout rela symbol =
    if st_type file symbol == STT_GNU_IFUNC then entry_value layout.linkage file strings rela symbol
    else refusal_at rela Unsupported

-- S of any other symbol (gABI 4, Symbol Values), by its section index: its own value if it is
-- absolute; the layout's definition, otherwise `undefined_value`, if it is undefined or common;
-- otherwise its offset from its section's address, and reserved indices have no address
unfoldable pub section_symbol_value : List ℕ → List ℕ → Layout → ℕ → ℕ → Result ℕ Refusal
section_symbol_value file strings layout rela symbol =
    let index = st_shndx file symbol in
    if index == SHN_ABS then Ok (st_value file symbol)
    else if index == SHN_UNDEF || index == SHN_COMMON then
    named_or symbol (address_named strings (st_name file symbol) layout.definitions) (undefined_value file rela symbol)
    else placed_at rela (if nat_lt index SHN_LORESERVE then address_in layout.sections index else None) (st_value file symbol)

-- S, the value of a symbol
unfoldable pub symbol_value : List ℕ → List ℕ → Layout → ℕ → ℕ → Result ℕ Refusal
symbol_value file strings layout rela symbol =
    if is_system_specific file symbol then system_value file strings layout rela symbol
    else section_symbol_value file strings layout rela symbol

-- L, the address of a symbol's procedure linkage table entry, if the layout has one; otherwise S
unfoldable pub plt_entry_value : List ℕ → List ℕ → Layout → ℕ → ℕ → Result ℕ Refusal
plt_entry_value file strings layout rela symbol =
    named_or symbol (address_named strings (st_name file symbol) layout.linkage) (symbol_value file strings layout rela symbol)

-- B, the address of a symbol for a base
unfoldable pub base_value : RelocationBase → List ℕ → List ℕ → Layout → ℕ → ℕ → Result ℕ Refusal
base_value Symbol file strings layout rela symbol = symbol_value file strings layout rela symbol
base_value Linkage file strings layout rela symbol = plt_entry_value file strings layout rela symbol
base_value Table file strings layout rela symbol = entry_value layout.table file strings rela symbol
base_value Thread file strings layout rela symbol = entry_value layout.thread file strings rela symbol

-- B of symbol 0: S and L are 0 (gABI 4, Relocation), and it has no entry
unfoldable pub unnamed_value : RelocationBase → ℕ → Result ℕ Refusal
unnamed_value Symbol rela = Ok 0
unnamed_value Linkage rela = Ok 0
unnamed_value Table rela = refusal_at rela Unsupported
unnamed_value Thread rela = refusal_at rela Unsupported

-- a layout has addresses for a base: S and L have a value without any
unfoldable pub has_base : Layout → RelocationBase → Bool
has_base layout Symbol = true
has_base layout Linkage = true
has_base layout Table = not (length layout.table == 0)
has_base layout Thread = not (length layout.thread == 0)

-- P, the place of the bytes that are relocated: their offset from their section's address
unfoldable pub place_value : List ℕ → Layout → ℕ → ℕ → Result ℕ Refusal
place_value file layout section rela = placed_at rela (address_in layout.sections section) (r_offset file rela)

-- a layout without items
abbrev pub no_items : Layout
no_items = record { lookup = Compared; sections = []; definitions = []; linkage = []; table = []; thread = [] }
