-- A version definition as a record of fields.
use Rattle.std.specs.Prelude.{ℕ, ◌≡◌, ◌+◌, List, [], ◌∷◌}
use Rattle.elf_model.specs.Bytes.{field}
use Rattle.elf_record.specs.Parts.{RecordField, Number}
use Rattle.elf_record.specs.declared.verdef.Verdef.{Verdef}

-- at an offset is a version definition with these fields, each at its place (Linux Standard Base
-- Core, Symbol Versioning)
pub record IsVerdef (file : List ℕ) (at : ℕ) (r : Verdef) : Type 0 where
  pub vd_version : r.vd_version ≡ field file at 2
  pub vd_flags : r.vd_flags ≡ field file (at + 2) 2
  pub vd_ndx : r.vd_ndx ≡ field file (at + 4) 2
  pub vd_cnt : r.vd_cnt ≡ field file (at + 6) 2
  pub vd_hash : r.vd_hash ≡ field file (at + 8) 4
  pub vd_aux : r.vd_aux ≡ field file (at + 12) 4
  pub vd_next : r.vd_next ≡ field file (at + 16) 4

-- a version definition's parts, in their order
abbrev pub verdef_parts : Verdef → List RecordField
verdef_parts r =
    Number 2 r.vd_version ∷ Number 2 r.vd_flags ∷ Number 2 r.vd_ndx ∷ Number 2 r.vd_cnt ∷ Number 4 r.vd_hash ∷ Number 4 r.vd_aux ∷ Number 4 r.vd_next ∷ []
