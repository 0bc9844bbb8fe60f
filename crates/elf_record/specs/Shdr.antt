-- The section header as a record of fields.
use Rattle.std.specs.Prelude.{ℕ, ◌≡◌, ◌+◌, List, [], ◌∷◌}
use Rattle.elf_model.specs.Bytes.{field}
use Rattle.elf_record.specs.Parts.{RecordField, Number}
use Rattle.elf_record.specs.declared.shdr.Shdr.{Shdr}

-- at an offset is a section header with these fields, each at its place (gABI 4, Section Header)
pub record IsShdr (file : List ℕ) (at : ℕ) (r : Shdr) : Type 0 where
  pub sh_name : r.sh_name ≡ field file at 4
  pub sh_type : r.sh_type ≡ field file (at + 4) 4
  pub sh_flags : r.sh_flags ≡ field file (at + 8) 8
  pub sh_addr : r.sh_addr ≡ field file (at + 16) 8
  pub sh_offset : r.sh_offset ≡ field file (at + 24) 8
  pub sh_size : r.sh_size ≡ field file (at + 32) 8
  pub sh_link : r.sh_link ≡ field file (at + 40) 4
  pub sh_info : r.sh_info ≡ field file (at + 44) 4
  pub sh_addralign : r.sh_addralign ≡ field file (at + 48) 8
  pub sh_entsize : r.sh_entsize ≡ field file (at + 56) 8

-- a section header's parts, in their order
abbrev pub shdr_parts : Shdr → List RecordField
shdr_parts r =
    Number 4 r.sh_name ∷ Number 4 r.sh_type ∷ Number 8 r.sh_flags ∷ Number 8 r.sh_addr ∷ Number 8 r.sh_offset
    ∷ Number 8 r.sh_size ∷ Number 4 r.sh_link ∷ Number 4 r.sh_info ∷ Number 8 r.sh_addralign
    ∷ Number 8 r.sh_entsize ∷ []
