-- The relocation entry without an addend as a record of fields.
use Rattle.std.specs.Prelude.{ℕ, ℤ, ◌≡◌, ◌+◌, Bool, true, false, List, [], ◌∷◌, Option, None, Some}
use Rattle.elf_model.specs.Prelude.{field, r_addend, twos_complement}
use Rattle.elf_record.specs.Parts.{RecordField, Number}
use Rattle.elf_record.specs.declared.rel.Rel.{Rel}

-- at an offset is a relocation entry with these fields, each at its place (gABI 4, Relocation)
pub record IsRel (file : List ℕ) (at : ℕ) (r : Rel) : Type 0 where
  pub r_offset : r.r_offset ≡ field file at 8
  pub r_info : r.r_info ≡ field file (at + 8) 8

-- such an entry's parts, in their order
abbrev pub rel_parts : Rel → List RecordField
rel_parts r = Number 8 r.r_offset ∷ Number 8 r.r_info ∷ []

-- the addend of a relocation entry at an offset, if entries have addends
abbrev pub IsAddend : (addends : Bool) → List ℕ → ℕ → Option ℤ → Type 0
IsAddend true file at addend = addend ≡ Some (twos_complement (r_addend file at))
IsAddend false file at addend = addend ≡ None
