-- The program header as a record of fields.
use Rattle.std.specs.Prelude.{ℕ, ◌≡◌, ◌+◌, List, [], ◌∷◌}
use Rattle.elf_model.specs.Bytes.{field}
use Rattle.elf_record.specs.Parts.{RecordField, Number}
use Rattle.elf_record.specs.declared.phdr.Phdr.{Phdr}

-- at an offset is a program header with these fields, each at its place (gABI 5, Program Header)
pub record IsPhdr (file : List ℕ) (at : ℕ) (r : Phdr) : Type 0 where
  pub p_type : r.p_type ≡ field file at 4
  pub p_flags : r.p_flags ≡ field file (at + 4) 4
  pub p_offset : r.p_offset ≡ field file (at + 8) 8
  pub p_vaddr : r.p_vaddr ≡ field file (at + 16) 8
  pub p_paddr : r.p_paddr ≡ field file (at + 24) 8
  pub p_filesz : r.p_filesz ≡ field file (at + 32) 8
  pub p_memsz : r.p_memsz ≡ field file (at + 40) 8
  pub p_align : r.p_align ≡ field file (at + 48) 8

-- a program header's parts, in their order
abbrev pub phdr_parts : Phdr → List RecordField
phdr_parts r =
    Number 4 r.p_type ∷ Number 4 r.p_flags ∷ Number 8 r.p_offset ∷ Number 8 r.p_vaddr ∷ Number 8 r.p_paddr
    ∷ Number 8 r.p_filesz ∷ Number 8 r.p_memsz ∷ Number 8 r.p_align ∷ []
