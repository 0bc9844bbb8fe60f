-- The headers of a file in memory, as C sees them.
use Rattle.std.specs.Prelude.{ℕ, ◌≡◌, ◌<◌, ◌≤◌, List, Option, None, Some, Result, Ok, Err}
use Rattle.elf_model.specs.Prelude.{e_phnum, e_shnum, first_refusal, header_checks, section_at, segment_at}
use Rattle.elf_model.specs.declared.causes.Refusal.{Refusal}
use Rattle.elf_record.specs.Prelude.{IsEhdr, IsPhdr, IsShdr}
use Rattle.elf_record.specs.declared.ehdr.Ehdr.{Ehdr}
use Rattle.elf_record.specs.declared.phdr.Phdr.{Phdr}
use Rattle.elf_record.specs.declared.shdr.Shdr.{Shdr}
use Rattle.elf_capi.specs.Checked.{first_refused}

-- THE RESULT of reading the file header: its fields, or its first failing check
abbrev pub ReadsHeader : List ℕ → Result (Option Ehdr) Refusal → Type 0
ReadsHeader file (Ok (Some header)) = (first_refusal (header_checks file) ≡ None) × IsEhdr file 0 header
ReadsHeader file (Ok None) = ⊥
ReadsHeader file (Err refusal) = first_refusal (header_checks file) ≡ Some refusal

-- the section header of an index, after its offset; none if the file has no such section; or the
-- first failing check
abbrev pub FindsSection : List ℕ → ℕ → Result (Option (ℕ × Shdr)) Refusal → Type 0
FindsSection file index (Ok (Some found)) =
    (first_refused file ≡ None) × (index < e_shnum file) × (found.0 ≡ section_at file index) × IsShdr file (section_at file index) found.1
FindsSection file index (Ok None) = (first_refused file ≡ None) × (e_shnum file ≤ index)
FindsSection file index (Err refusal) = first_refused file ≡ Some refusal

-- the same for the program header of an index
abbrev pub FindsSegment : List ℕ → ℕ → Result (Option (ℕ × Phdr)) Refusal → Type 0
FindsSegment file index (Ok (Some found)) =
    (first_refused file ≡ None) × (index < e_phnum file) × (found.0 ≡ segment_at file index) × IsPhdr file (segment_at file index) found.1
FindsSegment file index (Ok None) = (first_refused file ≡ None) × (e_phnum file ≤ index)
FindsSegment file index (Err refusal) = first_refused file ≡ Some refusal

-- THE RESULT of reading the section header of an index: its fields; none if the file has no such
-- section; or the first failing check
abbrev pub ReadsSection : List ℕ → ℕ → Result (Option Shdr) Refusal → Type 0
ReadsSection file index (Ok (Some section)) = (first_refused file ≡ None) × (index < e_shnum file) × IsShdr file (section_at file index) section
ReadsSection file index (Ok None) = (first_refused file ≡ None) × (e_shnum file ≤ index)
ReadsSection file index (Err refusal) = first_refused file ≡ Some refusal

-- the same for the program header of an index
abbrev pub ReadsSegment : List ℕ → ℕ → Result (Option Phdr) Refusal → Type 0
ReadsSegment file index (Ok (Some segment)) = (first_refused file ≡ None) × (index < e_phnum file) × IsPhdr file (segment_at file index) segment
ReadsSegment file index (Ok None) = (first_refused file ≡ None) × (e_phnum file ≤ index)
ReadsSegment file index (Err refusal) = first_refused file ≡ Some refusal
