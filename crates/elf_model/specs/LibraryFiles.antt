-- Whether a file that opens is the library that is searched for (glibc, elf/dl-load.c, open_verify
-- and _dl_map_object_from_fd): it is skipped, it is refused and ends the search, or it is the
-- object.
use Rattle.std.specs.Prelude.{ℕ, ◌/◌, ◌==◌, ◌&&◌, ◌||◌, nat_lt, not, is_none, unwrap_or, Bool, true, false, List, [], ◌∷◌, length, Option, None, Some, Result, Ok, Err}
use Rattle.std.specs.Int.RustNames.{bit_and}
use Rattle.elf_model.specs.Bytes.{field}
use Rattle.elf_model.specs.Checks.{Check, first_refusal, refuse}
use Rattle.elf_model.specs.Dynamic.{listed_value}
use Rattle.elf_model.specs.Links.{LinkState, TextRoom, links_of}
use Rattle.elf_model.specs.LoaderScope.{dynamic_segment_index}
use Rattle.elf_model.specs.Records.{FILE_HEADER_SIZE, e_machine, e_type, has_elf_magic, p_filesz, p_offset, segment_at}
use Rattle.elf_model.specs.Style.{without_sections}
use Rattle.elf_model.specs.Tables.{DYNAMIC_SIZE}
use Rattle.elf_model.specs.TraitNumbers.{DF_1_PIE, DT_FLAGS_1, ET_EXEC, is_linked_type}
use Rattle.elf_model.specs.declared.causes.Cause.TheVariants.{BadData, BadVersion, NotElf, Short, Unsupported}
use Rattle.elf_model.specs.declared.causes.Refusal.{Refusal}

-- the flag of DT_FLAGS_1 of an object whose needs are not searched for in the default directories
abbrev pub DF_1_NODEFLIB : ℕ
DF_1_NODEFLIB = 0x800

-- WHAT BECOMES OF A FILE: it is skipped, and the search goes on; it is refused, which ends it; it
-- is the object
pub data LibraryFile : Type 0 where
  Skipped : LibraryFile
  RefusedAt : Refusal → LibraryFile
  Accepted : LibraryFile

-- what ends a search: the file is too short for a header, or no ELF file
abbrev pub library_front_checks : List ℕ → List Check
library_front_checks file = refuse (nat_lt (length file) FILE_HEADER_SIZE) (length file) Short ∷ refuse (not (has_elf_magic file)) 0 NotElf ∷ []

-- a file that is for another class of machines, or another machine, by its bytes in little-endian
-- order
abbrev pub is_for_machine : (machine : ℕ) → List ℕ → Bool
is_for_machine machine file = field file 4 1 == 2 && e_machine file == machine

-- the identification names an ABI that is not the System V or GNU one, or a version of the first,
-- or has a byte set that is reserved (gABI 4, ELF Identification)
abbrev pub has_other_abi : List ℕ → Bool
has_other_abi file =
    not (field file 7 1 == 0 || field file 7 1 == 3)
    || (field file 7 1 == 0 && not (field file 8 1 == 0))
    || not (field file 9 7 == 0)

-- the checks of one for the machine, before its program headers are read
abbrev pub library_checks : List ℕ → List Check
library_checks file =
    refuse (not (field file 5 1 == 1)) 5 BadData
    ∷ refuse (not (field file 6 1 == 1)) 6 BadVersion
    ∷ refuse (has_other_abi file) 7 Unsupported
    ∷ refuse (not (field file 20 4 == 1)) 20 BadVersion
    ∷ refuse (not (is_linked_type (e_type file))) 16 Unsupported
    ∷ []

abbrev refused_or_accepted : Option Refusal → LibraryFile
refused_or_accepted None = Accepted
refused_or_accepted (Some refusal) = RefusedAt refusal

-- A FILE THAT OPENS, in a search for a library of a machine
unfoldable pub library_file : (machine : ℕ) → List ℕ → LibraryFile
library_file machine file = elim (first_refusal (library_front_checks file)) [
  | Some refusal ↦ RefusedAt refusal
  | None ↦ elim (is_for_machine machine file) [
    | false ↦ Skipped
    | true ↦ refused_or_accepted (first_refusal (library_checks file))
  ]
]

-- the flags of a file: the first entry DT_FLAGS_1 of its first segment of dynamic entries
unfoldable pub flags_1_by_segments : List ℕ → ℕ
flags_1_by_segments file = elim (dynamic_segment_index file) [
  | None ↦ 0
  | Some i ↦
      let at = segment_at file i in
      unwrap_or (listed_value file (p_offset file at) (p_filesz file at / DYNAMIC_SIZE) DT_FLAGS_1) 0
]

-- a file is a program, which is loaded at no other's request: it is not position-independent, it
-- says so, or it has no dynamic entries
unfoldable pub is_program_file : List ℕ → Bool
is_program_file file =
    e_type file == ET_EXEC
    || not (bit_and (flags_1_by_segments file) DF_1_PIE == 0)
    || is_none (dynamic_segment_index file)

-- HOW A LIBRARY IS LINKED, with this many headers allowed and this room for its texts: after all
-- other checks a program is refused
unfoldable pub library_links : List ℕ → (headers : ℕ) → TextRoom → Result LinkState Refusal
library_links file headers room = elim (links_of file headers room) [
  | Err refusal ↦ Err refusal
  | Ok linked ↦ elim (is_program_file (without_sections file)) [
    | true ↦ Err (record { at = 16; cause = Unsupported })
    | false ↦ Ok linked
  ]
]
