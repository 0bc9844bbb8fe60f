-- A file whose versions are needed as a record of fields.
use Rattle.std.specs.Prelude.{ℕ, ◌≡◌, ◌+◌, List, [], ◌∷◌}
use Rattle.elf_model.specs.Bytes.{field}
use Rattle.elf_record.specs.Parts.{RecordField, Number}
use Rattle.elf_record.specs.declared.verneed.Verneed.{Verneed}

-- at an offset is a file whose versions are needed with these fields, each at its place (Linux
-- Standard Base Core, Symbol Versioning)
pub record IsVerneed (file : List ℕ) (at : ℕ) (r : Verneed) : Type 0 where
  pub vn_version : r.vn_version ≡ field file at 2
  pub vn_cnt : r.vn_cnt ≡ field file (at + 2) 2
  pub vn_file : r.vn_file ≡ field file (at + 4) 4
  pub vn_aux : r.vn_aux ≡ field file (at + 8) 4
  pub vn_next : r.vn_next ≡ field file (at + 12) 4

-- a needed file's parts, in their order
abbrev pub verneed_parts : Verneed → List RecordField
verneed_parts r =
    Number 2 r.vn_version ∷ Number 2 r.vn_cnt ∷ Number 4 r.vn_file ∷ Number 4 r.vn_aux ∷ Number 4 r.vn_next ∷ []
