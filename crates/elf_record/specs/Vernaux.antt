-- A needed version as a record of fields.
use Rattle.std.specs.Prelude.{ℕ, ◌≡◌, ◌+◌, List, [], ◌∷◌}
use Rattle.elf_model.specs.Bytes.{field}
use Rattle.elf_record.specs.Parts.{RecordField, Number}
use Rattle.elf_record.specs.declared.vernaux.Vernaux.{Vernaux}

-- at an offset is a needed version with these fields, each at its place (Linux Standard Base Core,
-- Symbol Versioning)
pub record IsVernaux (file : List ℕ) (at : ℕ) (r : Vernaux) : Type 0 where
  pub vna_hash : r.vna_hash ≡ field file at 4
  pub vna_flags : r.vna_flags ≡ field file (at + 4) 2
  pub vna_other : r.vna_other ≡ field file (at + 6) 2
  pub vna_name : r.vna_name ≡ field file (at + 8) 4
  pub vna_next : r.vna_next ≡ field file (at + 12) 4

-- a needed version's parts, in their order
abbrev pub vernaux_parts : Vernaux → List RecordField
vernaux_parts r =
    Number 4 r.vna_hash ∷ Number 2 r.vna_flags ∷ Number 2 r.vna_other ∷ Number 4 r.vna_name ∷ Number 4 r.vna_next ∷ []
