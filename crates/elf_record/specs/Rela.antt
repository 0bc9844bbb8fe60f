-- The relocation entry as a record of fields.
use Rattle.std.specs.Prelude.{ℕ, ◌≡◌, ◌+◌, List, [], ◌∷◌}
use Rattle.std.specs.Int.{cast_unsigned, w64}
use Rattle.elf_model.specs.Prelude.{field, twos_complement}
use Rattle.elf_record.specs.Parts.{RecordField, Number}
use Rattle.elf_record.specs.declared.rela.Rela.{Rela}

-- at an offset is a relocation entry with these fields, each at its place (gABI 4, Relocation)
pub record IsRela (file : List ℕ) (at : ℕ) (r : Rela) : Type 0 where
  pub r_offset : r.r_offset ≡ field file at 8
  pub r_info : r.r_info ≡ field file (at + 8) 8
  pub r_addend : r.r_addend ≡ twos_complement (field file (at + 16) 8)

-- a relocation entry's parts, in their order; a signed number by its bits
abbrev pub rela_parts : Rela → List RecordField
rela_parts r = Number 8 r.r_offset ∷ Number 8 r.r_info ∷ Number 8 (cast_unsigned w64 r.r_addend) ∷ []
