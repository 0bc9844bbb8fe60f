-- Where the bytes at an address are in a file: the segments load them (gABI 5, Program Header,
-- Program Loading). So a file without sections has the string table of its dynamic entries. A
-- program header is at an offset of some bytes: of the file, or of its own bytes alone, at 0.
use Rattle.std.specs.Prelude.{ℕ, zero, suc, ◌+◌, ◌-◌, ◌==◌, ◌&&◌, nat_lt, not, Bool, true, if◌then◌else◌, List, [], ◌∷◌, length, Option, None, Some, Result, Ok, Err}
use Rattle.elf_model.specs.Bytes.{slice}
use Rattle.elf_model.specs.Checks.{Check, refuse, first_refusal, is_outside}
use Rattle.elf_model.specs.Dynamic.{dynamic_value}
use Rattle.elf_model.specs.Numbers.{PT_LOAD, DT_STRTAB, DT_STRSZ}
use Rattle.elf_model.specs.Records.{e_phnum, p_type, p_offset, p_vaddr, p_filesz, segment_at}
use Rattle.elf_model.specs.declared.causes.Cause.TheVariants.{TableOutside, Unmapped}
use Rattle.elf_model.specs.declared.causes.Refusal.{Refusal}

-- a LOAD segment has z bytes at the address v among those that it has in the file, p_filesz of
-- them; sums do not wrap
abbrev pub is_mapped_by : List ℕ → ℕ → ℕ → ℕ → Bool
is_mapped_by bytes at v z =
    p_type bytes at == PT_LOAD
    && not (nat_lt v (p_vaddr bytes at))
    && not (nat_lt (p_vaddr bytes at + p_filesz bytes at) (v + z))

-- the offset of the first of this many program headers, from an index, that has z bytes at the
-- address v
unfoldable pub mapped_from : List ℕ → ℕ → ℕ → ℕ → ℕ → Option ℕ
mapped_from file v z first zero = None
mapped_from file v z first (suc count) =
    if is_mapped_by file (segment_at file first) v z then Some (segment_at file first)
    else mapped_from file v z (suc first) count

-- the offset of the first program header of the file that does
abbrev pub mapped_at : List ℕ → ℕ → ℕ → Option ℕ
mapped_at file v z = mapped_from file v z 0 (e_phnum file)

-- the offset in the file of the byte at an address, by the program header of its segment
abbrev pub mapped_offset : List ℕ → ℕ → ℕ → ℕ
mapped_offset bytes at v = p_offset bytes at + (v - p_vaddr bytes at)

-- z bytes at the address v, which an entry gives: a LOAD program header has them, otherwise they
-- are refused at the entry; by the first that does they are within the file, otherwise they are
-- refused at that program header
abbrev pub mapped_checks : List ℕ → ℕ → ℕ → ℕ → List Check
mapped_checks file v z entry = elim (mapped_at file v z) [
  | None ↦ refuse true entry Unmapped ∷ []
  | Some at ↦ refuse (is_outside (length file) (mapped_offset file at v) z) at TableOutside ∷ []
]

-- the offset of those bytes in the file; it is meaningless if none has them
abbrev pub mapped_place : List ℕ → ℕ → ℕ → ℕ
mapped_place file v z = elim (mapped_at file v z) [ None ↦ 0 | Some at ↦ mapped_offset file at v ]

-- those bytes, which are meaningless too if a check fails
abbrev pub mapped_bytes : List ℕ → ℕ → ℕ → List ℕ
mapped_bytes file v z = slice file (mapped_place file v z) z

-- this many bytes at an address, for the dynamic entry at an offset, which is refused if either is
-- not known; otherwise they are there after their checks, `mapped_checks`
unfoldable pub strings_at : List ℕ → ℕ → Option ℕ → Option ℕ → Result (List ℕ) Refusal
strings_at file dynamic_at None size = Err (record { at = dynamic_at; cause = Unmapped })
strings_at file dynamic_at (Some address) None = Err (record { at = dynamic_at; cause = Unmapped })
strings_at file dynamic_at (Some address) (Some size) =
    elim (first_refusal (mapped_checks file address size dynamic_at)) [
      | None ↦ Ok (mapped_bytes file address size)
      | Some refusal ↦ Err refusal
    ]

-- the strings of the n dynamic entries at an offset, for one of them: at the address of the first
-- DT_STRTAB, with the size of the first DT_STRSZ
unfoldable pub mapped_strings : List ℕ → ℕ → ℕ → ℕ → Result (List ℕ) Refusal
mapped_strings file at n dynamic_at = strings_at file dynamic_at (dynamic_value file at n DT_STRTAB) (dynamic_value file at n DT_STRSZ)
