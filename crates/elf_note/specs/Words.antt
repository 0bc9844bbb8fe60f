-- The fields of a record of symbol versions, and its checks.
use Rattle.std.specs.Prelude.{ℕ, ◌≡◌, ◌+◌, ◌<◌, ◌≤◌, ◌==◌, nat_lt, not, List, [], ◌∷◌}
use Rattle.elf_model.specs.Prelude.{Check, DEFINED_NAME_SIZE, NEED_SIZE, VERSION_NUMBERS, VisitedRecord, flags_word, hash_word, next_word, number_in, number_word, refuse, vd_aux, version_word, vn_aux, vn_file, vna_name}
use Rattle.elf_model.specs.declared.causes.Cause.TheVariants.{BadVersion, VersionCut, VersionIndex}
use Rattle.elf_model.specs.declared.versions.VersionKind.TheVariants.{Definition, File, Need}
use Rattle.elf_model.specs.declared.versions.VersionKind.{VersionKind}
use Rattle.elf_note.specs.declared.record_position.RecordPosition.{RecordPosition}
use Rattle.elf_note.specs.declared.record_fields.VersionRecordFields.{VersionRecordFields}

-- the other distance that a record holds, besides that to the next of its kind: to its name, or to
-- its first version
unfoldable pub aux_word : List ℕ → VisitedRecord → ℕ
aux_word file met = elim met.kind [ Definition ↦ vd_aux file met.at | File ↦ vn_aux file met.at | Need ↦ 0 ]

-- the index of its name, if the record holds it
unfoldable pub HoldsName : List ℕ → VisitedRecord → ℕ → Type 0
HoldsName file met name = elim met.kind as (λ _. Type 0) [ Definition ↦ Unit {0} | File ↦ name ≡ vn_file file met.at | Need ↦ name ≡ vna_name file met.at ]

-- fields are those of a record of a file
pub record HoldsWords (file : List ℕ) (met : VisitedRecord) (words : VersionRecordFields) : Type 0 where
  pub version : words.version ≡ version_word file met
  pub number : words.number ≡ number_word file met
  pub flags : words.flags ≡ flags_word file met
  pub hash : words.hash ≡ hash_word file met
  pub aux : words.aux ≡ aux_word file met
  pub name : HoldsName file met words.name
  pub next : words.next ≡ next_word file met

-- the distance from a record to the structure that holds the index of its name, and to the end of
-- that
unfoldable pub distance_of_name : VersionKind → ℕ → ℕ
distance_of_name kind aux = elim kind [ Definition ↦ aux | File ↦ 0 | Need ↦ 0 ]

unfoldable pub end_of_named_record : VersionKind → ℕ → ℕ
end_of_named_record kind aux = elim kind [ Definition ↦ aux + DEFINED_NAME_SIZE | File ↦ NEED_SIZE | Need ↦ NEED_SIZE ]

-- the checks of the fields of a record that is in the file at an offset and at a place of its table
-- of `size` bytes
abbrev pub checks_of : VersionKind → (size place at : ℕ) → VersionRecordFields → List Check
checks_of kind size place at words =
    refuse (not (words.version == 1)) at BadVersion
    ∷ refuse (not (nat_lt (number_in words.number) VERSION_NUMBERS)) at VersionIndex
    ∷ refuse (nat_lt size (place + end_of_named_record kind words.aux)) at VersionCut
    ∷ []

-- what those checks imply for a record at the position of a walk: its name ends in its table of
-- `size` bytes, and its version index is small
pub record PassesWords (size : ℕ) (s : RecordPosition) (words : VersionRecordFields) : Type 0 where
  pub ends : s.place + end_of_named_record s.kind words.aux ≤ size
  pub small : number_in words.number < VERSION_NUMBERS
