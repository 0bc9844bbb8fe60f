-- What a loaded file in the segment view returns for its segments.
use Rattle.std.specs.Prelude.{ℕ, ◌≡◌, ◌+◌, ◌-◌, ◌*◌, ◌≤◌, ◌==◌, List, [], ◌∷◌, length, Option, None, Some, Result, Ok, Err}
use Rattle.elf_model.specs.Prelude.{Check, e_phnum, first_refusal, first_that, is_outside, mapped_at, mapped_checks, mapped_place, p_filesz, p_offset, p_type, p_vaddr, refuse, segment_at}
use Rattle.elf_model.specs.declared.causes.Cause.TheVariants.{TableOutside, Unmapped}
use Rattle.elf_record.specs.declared.ehdr.Ehdr.{Ehdr}
use Rattle.elf_table.specs.Load.{HoldsProgramHeaders}
use Rattle.elf_table.specs.Relocations.{RefusedBy}
use Rattle.elf_table.specs.Sections.{byte_rows, checked, rows, rows_of, strings}
use Rattle.elf_table.specs.Store.{segment_bytes}
use Rattle.elf_table.specs.Tables.{TableRange, StringTableRange}
use Rattle.elf_table.specs.declared.fault.Fault.{Fault}
use Rattle.elf_table.specs.declared.fault.Fault.TheVariants.{Refused}
use Rattle.elf_table.specs.declared.segment_view.ExecutionView.{ExecutionView}

-- a result for a segment is what the file that is viewed has at its program header
abbrev pub ReturnsSegment : {A : Type 0} → ExecutionView → ℕ → A → (List ℕ → ℕ → A) → Type 0
ReturnsSegment v segment answer has =
    (file : List ℕ) → HoldsProgramHeaders file v.loaded v.store.now → answer ≡ has file (segment_at file segment)

-- CHECKS ALONE: all pass, or the fault is the first of them that fails
abbrev pub ChecksDecide : List Check → Result (Unit {0}) Fault → Type 0
ChecksDecide checks (Ok passed) = first_refusal checks ≡ None
ChecksDecide checks (Err fault) = RefusedBy checks fault

-- the file offset of the program header of an index
abbrev pub segment_place : Ehdr → ℕ → ℕ
segment_place header i = header.e_phoff + 56 * i

-- the dynamic entries of a segment whose program header is at an offset of some bytes, in a file of
-- a size; the refusals point to a place
abbrev pub dynamic_of : List ℕ → ℕ → ℕ → ℕ → Result TableRange Fault
dynamic_of bytes at file_size place = rows_of file_size (p_offset bytes at) (p_filesz bytes at) place 16

-- those of a segment of the file
abbrev pub dynamic_table_at : List ℕ → ℕ → Result TableRange Fault
dynamic_table_at file at = dynamic_of file at (length file) at

-- the bytes of the segment whose program header is at an offset
abbrev pub byte_table_at : List ℕ → ℕ → Result TableRange Fault
byte_table_at file at = byte_rows (length file) (p_offset file at) (p_filesz file at) at

-- those of a segment, by its program header in the store
abbrev pub dynamic_in : ExecutionView → ℕ → Result TableRange Fault
dynamic_in v segment =
    dynamic_of (segment_bytes v.store.now segment) 0 v.loaded.size (segment_place v.loaded.header segment)

-- how many bytes a segment has in the file, by its program header in the store
abbrev pub filesz_in : ExecutionView → ℕ → ℕ
filesz_in v segment = p_filesz (segment_bytes v.store.now segment) 0

-- a string table of a number of bytes at an offset of a file of a size; the refusal points to a
-- program header
abbrev pub strings_placed : ℕ → ℕ → ℕ → ℕ → Result StringTableRange Fault
strings_placed file_size header place size =
    checked (refuse (is_outside file_size place size) header TableOutside ∷ []) (strings place size)

-- the string table of a number of bytes at an address, which an entry holds
abbrev pub strings_mapped : List ℕ → ℕ → ℕ → ℕ → Result StringTableRange Fault
strings_mapped file address size entry =
    checked (mapped_checks file address size entry) (strings (mapped_place file address size) size)

-- a segment whose program header is at an offset of some bytes holds `size` bytes at an address
pub record HoldsAddresses (bytes : List ℕ) (at address size : ℕ) : Type 0 where
  pub above : p_vaddr bytes at ≤ address
  pub inside : address + size ≤ p_vaddr bytes at + p_filesz bytes at

-- the first program header of a type
abbrev pub first_of_kind : List ℕ → ℕ → Option ℕ
first_of_kind file kind = first_that (λ i. p_type file (segment_at file i) == kind) 0 (e_phnum file)

-- the rest of a segment's bytes after an address, by its program header at an offset of some bytes,
-- in a file of a size; the refusal points to a place
abbrev pub rest_of : List ℕ → ℕ → ℕ → ℕ → ℕ → Result TableRange Fault
rest_of bytes at file_size place v =
    checked (refuse (is_outside file_size (p_offset bytes at) (p_filesz bytes at)) place TableOutside ∷ [])
    (rows (p_offset bytes at + (v - p_vaddr bytes at)) (p_filesz bytes at - (v - p_vaddr bytes at)) 1)

-- the rest of the bytes of the first LOAD segment that has an address, which an entry holds
abbrev pub rest_mapped : List ℕ → ℕ → ℕ → Result TableRange Fault
rest_mapped file v entry = elim (mapped_at file v 1) [
  | None ↦ Err (Refused (record { at = entry; cause = Unmapped }))
  | Some at ↦ rest_of file at (length file) at v
]
