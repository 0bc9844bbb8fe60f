-- The dynamic entry as a record of fields.
use Rattle.std.specs.Prelude.{ℕ, ◌≡◌, ◌+◌, ◌^◌, ◌<◌, List, [], ◌∷◌}
use Rattle.std.specs.Int.{cast_unsigned, w64}
use Rattle.elf_model.specs.Prelude.{field, twos_complement}
use Rattle.elf_record.specs.Parts.{RecordField, Number}
use Rattle.elf_record.specs.declared.dyn_entry.Dyn.{Dyn}

-- at an offset is a dynamic entry with these fields, each at its place, and its tag also by its 64
-- bits (gABI 5, Dynamic Section)
pub record IsDyn (file : List ℕ) (at : ℕ) (r : Dyn) : Type 0 where
  pub d_tag : r.d_tag ≡ twos_complement (field file at 8)
  pub d_tag_bits : cast_unsigned w64 r.d_tag ≡ field file at 8
  pub d_tag_low : field file at 8 < 2 ^ 64
  pub d_un : r.d_un ≡ field file (at + 8) 8

-- a dynamic entry's parts, in their order; a signed number by its bits
abbrev pub dyn_parts : Dyn → List RecordField
dyn_parts r = Number 8 (cast_unsigned w64 r.d_tag) ∷ Number 8 r.d_un ∷ []
