-- Symbol versions (Linux Standard Base Core, Symbol Versioning): the records of a table of
-- definitions or of needs, in the order in which they are visited. Only the distances lead from
-- record to record: no count of them is read, and no hash. A table is at an offset of the file; a
-- place is an offset in it. Sums do not wrap, so that a chain goes only forward.
use Rattle.std.specs.Prelude.{ℕ, zero, suc, ◌+◌, ◌/◌, ◌%◌, ◌^◌, ◌==◌, ◌&&◌, nat_lt, not, Bool, true, false, if◌then◌else◌, List, [], ◌∷◌, ◌++◌, Option, None, Some}
use Rattle.std.specs.Int.RustNames.{bit_and}
use Rattle.elf_model.specs.Records.{vd_version, vd_flags, vd_ndx, vd_hash, vd_aux, vd_next, vda_name, vn_version, vn_file, vn_aux, vn_next, vna_hash, vna_flags, vna_other, vna_name, vna_next}
use Rattle.elf_model.specs.Checks.{Check, refuse, first_refusal}
use Rattle.elf_model.specs.declared.causes.Cause.TheVariants.{BadVersion, VersionCut, VersionIndex}
use Rattle.elf_model.specs.declared.causes.Refusal.{Refusal}
use Rattle.elf_model.specs.declared.versions.VersionKind.{VersionKind}
use Rattle.elf_model.specs.declared.versions.VersionKind.TheVariants.{Definition, File, Need}

-- the sizes of a definition, of a name of one, and of a needed file, which is that of a needed
-- version too, in bytes
abbrev pub DEFINITION_SIZE : ℕ
DEFINITION_SIZE = 20

abbrev pub DEFINED_NAME_SIZE : ℕ
DEFINED_NAME_SIZE = 8

abbrev pub NEED_SIZE : ℕ
NEED_SIZE = 16

-- the size of a versym entry, in bytes
abbrev pub VERSYM_SIZE : ℕ
VERSYM_SIZE = 2

-- the size of a record of a kind
abbrev pub record_size : VersionKind → ℕ
record_size kind = elim kind [ Definition ↦ DEFINITION_SIZE | File ↦ NEED_SIZE | Need ↦ NEED_SIZE ]

-- how many version indices there may be
abbrev pub VERSION_NUMBERS : ℕ
VERSION_NUMBERS = 1024

-- the version index in a versym entry: its highest bit says that the version is hidden
abbrev pub number_in : ℕ → ℕ
number_in word = word % 2 ^ 15

-- the flag of the definition that names the file itself
abbrev VER_FLG_BASE : ℕ
VER_FLG_BASE = 1

-- A RECORD THAT IS MET: its kind and its offset in the file
pub record VisitedRecord : Type 0 where
  pub kind : VersionKind
  pub at : ℕ

-- the fields of a visited record, by its kind: the version of its layout, of which a needed version
-- has none; its index, its flags and its hash, of which a needed file has none
unfoldable pub version_word : List ℕ → VisitedRecord → ℕ
version_word file met = elim met.kind [ Definition ↦ vd_version file met.at | File ↦ vn_version file met.at | Need ↦ 1 ]

unfoldable pub number_word : List ℕ → VisitedRecord → ℕ
number_word file met = elim met.kind [ Definition ↦ vd_ndx file met.at | File ↦ 0 | Need ↦ vna_other file met.at ]

unfoldable pub flags_word : List ℕ → VisitedRecord → ℕ
flags_word file met = elim met.kind [ Definition ↦ vd_flags file met.at | File ↦ 0 | Need ↦ vna_flags file met.at ]

unfoldable pub hash_word : List ℕ → VisitedRecord → ℕ
hash_word file met = elim met.kind [ Definition ↦ vd_hash file met.at | File ↦ 0 | Need ↦ vna_hash file met.at ]

-- the distance from it to the next record of its kind; 0 is the end of the chain
unfoldable pub next_word : List ℕ → VisitedRecord → ℕ
next_word file met = elim met.kind [ Definition ↦ vd_next file met.at | File ↦ vn_next file met.at | Need ↦ vna_next file met.at ]

-- the distance from it to what has the index of its name: a definition's first name, otherwise the
-- record itself; and to the end of that
unfoldable pub name_distance : List ℕ → VisitedRecord → ℕ
name_distance file met = elim met.kind [ Definition ↦ vd_aux file met.at | File ↦ 0 | Need ↦ 0 ]

unfoldable pub name_end : List ℕ → VisitedRecord → ℕ
name_end file met =
    elim met.kind [ Definition ↦ vd_aux file met.at + DEFINED_NAME_SIZE | File ↦ NEED_SIZE | Need ↦ NEED_SIZE ]

-- the offset of that in the file, and the index, in the string table
abbrev pub named_at : List ℕ → VisitedRecord → ℕ
named_at file met = met.at + name_distance file met

unfoldable pub name_index : List ℕ → VisitedRecord → ℕ
name_index file met =
    elim met.kind [
      | Definition ↦ vda_name file (named_at file met)
      | File ↦ vn_file file met.at
      | Need ↦ vna_name file met.at
    ]

-- THE STATE OF A WALK: the kind of the next record, its place in the table, the offset in the file
-- of what led there, and, of a needed version, the place of its file
pub record RecordCursorState : Type 0 where
  pub kind : VersionKind
  pub place : ℕ
  pub from : ℕ
  pub owner : ℕ

-- the record there, in a table at an offset
abbrev pub visited_at : ℕ → RecordCursorState → VisitedRecord
visited_at table stand = record { kind = stand.kind; at = table + stand.place }

-- the checks of a record, in a table at an offset and of some bytes, in this order: it is in the
-- table; the version of its layout is 1; its version index is not too large; its name is in the
-- table
abbrev place_checks : (size : ℕ) → RecordCursorState → List Check
place_checks size stand = refuse (nat_lt size (stand.place + record_size stand.kind)) stand.from VersionCut ∷ []

abbrev pub word_checks : List ℕ → (size place : ℕ) → VisitedRecord → List Check
word_checks file size place met =
    refuse (not (version_word file met == 1)) met.at BadVersion
    ∷ refuse (not (nat_lt (number_in (number_word file met)) VERSION_NUMBERS)) met.at VersionIndex
    ∷ refuse (nat_lt size (place + name_end file met)) met.at VersionCut
    ∷ []

unfoldable pub record_checks : List ℕ → (table size : ℕ) → RecordCursorState → List Check
record_checks file table size stand = place_checks size stand ++ word_checks file size stand.place (visited_at table stand)

-- where a record leads, by the distance from it to the next of its kind
abbrev pub along : (table : ℕ) → VersionKind → (place distance owner : ℕ) → Option RecordCursorState
along table kind place distance owner =
    if distance == 0 then None
    else Some (record { kind = kind; place = place + distance; from = table + place; owner = owner })

-- where a needed version leads, by the distance to the next and by that from its file to the next
-- file: the last of a file's versions leads where the file does
abbrev pub along_needs : (table : ℕ) → (place distance owner files : ℕ) → Option RecordCursorState
along_needs table place distance owner files =
    if distance == 0 then along table File owner files 0 else along table Need place distance owner

-- where a record leads: a definition to the next; a needed file to its first version; a version to
-- the next of its file, and the last of them to the next file
unfoldable pub next_position : List ℕ → ℕ → RecordCursorState → Option RecordCursorState
next_position file table stand =
    let met = visited_at table stand in
    elim stand.kind [
      | Definition ↦ along table Definition stand.place (next_word file met) 0
      | File ↦ Some (record { kind = Need; place = stand.place + vn_aux file met.at; from = met.at; owner = stand.place })
      | Need ↦ along_needs table stand.place (next_word file met) stand.owner (vn_next file (table + stand.owner))
    ]

-- THE RECORDS OF A TABLE, in the order in which they are visited, up to the refusal of a malformed
-- one, if there is one
pub record Versions : Type 0 where
  pub met : List VisitedRecord
  pub cut : Option Refusal

-- no record
abbrev pub no_versions : Option Refusal → Versions
no_versions cut = record { met = []; cut = cut }

-- a record before those after it
abbrev pub with_visited : VisitedRecord → Versions → Versions
with_visited met versions = record { met = met ∷ versions.met; cut = versions.cut }

-- the records from the state of a walk on, or none if it has ended: at most this many, and if there
-- are more they are refused at what led there
unfoldable pub visited_from : List ℕ → (table size : ℕ) → Option RecordCursorState → ℕ → Versions
visited_from file table size None most = no_versions None
visited_from file table size (Some stand) zero = no_versions (Some (record { at = stand.from; cause = VersionCut }))
visited_from file table size (Some stand) (suc most) =
    elim (first_refusal (record_checks file table size stand)) [
      | Some refusal ↦ no_versions (Some refusal)
      | None ↦ with_visited (visited_at table stand) (visited_from file table size (next_position file table stand) most)
    ]

-- the start of the walk over a table: its first byte, where what describes the table led, at an
-- offset of the file; nowhere in a table of no bytes
abbrev pub first_position : VersionKind → (head size : ℕ) → Option RecordCursorState
first_position kind head size = if size == 0 then None else Some (record { kind = kind; place = 0; from = head; owner = 0 })

-- as many records as could be in a table one after another; records may overlap, but no more are
-- visited
abbrev pub max_records : VersionKind → ℕ → ℕ
max_records kind size = size / record_size kind

-- the definitions of a table, or the needed files and versions, by the kind of its first record
unfoldable pub versions_in : VersionKind → List ℕ → (head table size : ℕ) → Versions
versions_in kind file head table size = visited_from file table size (first_position kind head size) (max_records kind size)

-- a visited record names a version: a needed version does, and a definition that does not name the
-- file itself
unfoldable pub names_version : List ℕ → VisitedRecord → Bool
names_version file met =
    elim met.kind [ Definition ↦ bit_and (vd_flags file met.at) VER_FLG_BASE == 0 | File ↦ false | Need ↦ true ]

-- it names the version that has an index
abbrev pub names_version_index : List ℕ → ℕ → VisitedRecord → Bool
names_version_index file number met = names_version file met && (number_in (number_word file met) == number)

-- the first of some records that names the version of an index
unfoldable pub named_by : List ℕ → ℕ → List VisitedRecord → Option VisitedRecord
named_by file number [] = None
named_by file number (met ∷ others) = if names_version_index file number met then Some met else named_by file number others

-- THE RECORD THAT NAMES THE VERSION OF AN INDEX: the first definition that has it, otherwise the
-- first need; 0 and 1 are no version's indices
unfoldable pub version_of : List ℕ → (definitions needs : List VisitedRecord) → ℕ → Option VisitedRecord
version_of file definitions needs number =
    if nat_lt number 2 then None else named_by file number (definitions ++ needs)
