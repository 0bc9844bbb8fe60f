-- The records of symbol versions of a file in memory, and the entries of its symbols' versions.
use Rattle.std.specs.Prelude.{ℕ, ◌≡◌, ◌+◌, ◌-◌, ◌^◌, ◌<◌, ◌≤◌, ◌==◌, ◌&&◌, ◌⊎◌, min, nat_le, if◌then◌else◌, List, length, Option, None, Some, Result, Ok, Err}
use Rattle.elf_model.specs.Prelude.{NEED_SIZE, RecordCursorState, SHT_GNU_VERDEF, SHT_GNU_VERNEED, VERSYM_SIZE, Versions, VisitedRecord, all_checks, e_shnum, first_refusal, flags_word, hash_word, linked_at, max_records, name_index, named_at, no_versions, number_in, number_word, section_at, section_versions, sh_offset, sh_size, sh_type, version_table, versioned_count, versym, visited_from, with_visited}
use Rattle.elf_model.specs.declared.versions.VersionKind.TheVariants.{Definition, File, Need}
use Rattle.elf_model.specs.declared.causes.Refusal.{Refusal}
use Rattle.elf_model.specs.declared.versions.VersionKind.{VersionKind}
use Rattle.elf_table.specs.Prelude.{RefusedBy, StringTableRange, names_at, strings}
use Rattle.elf_table.specs.declared.fault.Fault.{Fault}
use Rattle.elf_capi.specs.Checked.{load_refused}
use Rattle.elf_note.specs.declared.record_position.RecordPosition.{RecordPosition}
use Rattle.elf_capi.specs.declared.record_row.RecordRow.{RecordRow}
use Rattle.elf_capi.specs.declared.records.VersionRecordPosition.{VersionRecordPosition}
use Rattle.elf_capi.specs.declared.rows.RowPosition.{RowPosition}
use Rattle.elf_capi.specs.declared.version_words.Versym.{Versym}

-- the number of a kind of record: 1 a definition, 2 a needed file, 3 a version needed of one
abbrev pub kind_number : VersionKind → ℕ
kind_number Definition = 1
kind_number File = 2
kind_number Need = 3

-- how many bytes of the table lie within a file of the given size
abbrev pub bytes_within : ℕ → VersionRecordPosition → ℕ
bytes_within size records = min records.size (size - records.at)

-- where a walk is whose next record is of a kind
abbrev pub stand_as : VersionKind → VersionRecordPosition → RecordCursorState
stand_as kind records = record { kind = kind; place = records.place; from = records.from; owner = records.owner }

-- where a walk is in a table of the given size: nowhere for another number of a kind, or if the
-- needed file of a version is not one of the table's
abbrev pub standing_in : ℕ → VersionRecordPosition → Option RecordCursorState
standing_in size records =
    if records.kind == 1 && nat_le records.owner size then Some (stand_as Definition records)
    else if records.kind == 2 && nat_le records.owner size then Some (stand_as File records)
    else if records.kind == 3 && nat_le (records.owner + NEED_SIZE) size then Some (stand_as Need records)
    else None

-- THE RECORDS that are left to be visited, up to the refusal of an invalid one
abbrev pub records_left : List ℕ → VersionRecordPosition → Versions
records_left file records =
    let size = bytes_within (length file) records in
    visited_from file records.at size (standing_in size records) records.left

-- the fields of a visited record (Linux Standard Base Core, Symbol Versioning)
pub record IsRecordRow (file : List ℕ) (met : VisitedRecord) (row : RecordRow) : Type 0 where
  pub kind : row.kind ≡ kind_number met.kind
  pub place : row.at ≡ met.at
  pub named_at : row.named_at ≡ named_at file met
  pub name : row.name ≡ name_index file met
  pub hash : row.hash ≡ hash_word file met
  pub number : row.number ≡ number_word file met
  pub flags : row.flags ≡ flags_word file met

-- A STEP: the records that were left are one, which is returned as a row, and those that are left;
-- or there was none; or what was left is refused
abbrev pub StepsRecord : List ℕ → VersionRecordPosition → VersionRecordPosition → Result (Option RecordRow) Refusal → Type 0
StepsRecord file old new (Ok (Some row)) =
    (met : VisitedRecord) × (records_left file old ≡ with_visited met (records_left file new)) × IsRecordRow file met row × (new.left + 1 ≡ old.left)
StepsRecord file old new (Ok None) = (records_left file old ≡ no_versions None) × (new ≡ old)
StepsRecord file old new (Err refusal) = (records_left file old ≡ no_versions (Some refusal)) × (new ≡ old)

-- the walk goes on where a record leads, or has ended, with one record fewer that may be visited
abbrev pub GoesOnTo : VersionRecordPosition → VersionRecordPosition → Option RecordPosition → Type 0
GoesOnTo old new None = new ≡ record (old) { left = old.left - 1; kind = 0 }
GoesOnTo old new (Some standing) =
    new
    ≡ record (old) {
      left = old.left - 1;
      kind = kind_number standing.kind;
      place = min standing.place (2 ^ 64 - 1);
      from = standing.from;
      owner = standing.owner;
    }

-- a position before the first record of the section with this header, with a string table
abbrev pub starting : List ℕ → VersionKind → ℕ → StringTableRange → VersionRecordPosition
starting file kind at names = record {
  at = sh_offset file at;
  size = sh_size file at;
  place = 0;
  from = at;
  owner = 0;
  left = max_records kind (sh_size file at);
  strings_at = names.at;
  strings_len = names.size;
  kind = if sh_size file at == 0 then 0 else kind_number kind;
  none = 0;
}

-- the kind of the first record of a section, by its type
abbrev pub first_kind : List ℕ → ℕ → Option VersionKind
first_kind file at =
    if sh_type file at == SHT_GNU_VERDEF then Some Definition
    else if sh_type file at == SHT_GNU_VERNEED then Some File
    else None

-- the string table that the records of the section with this header have; no bytes if it is empty
abbrev pub record_names : List ℕ → ℕ → StringTableRange
record_names file at = if sh_size file at == 0 then strings 0 0 else names_at file (linked_at file at)

-- the string table of the records of a section, whose checks pass, or the first of its checks that
-- fails
abbrev pub FindsRecords : List ℕ → ℕ → Result StringTableRange Fault → Type 0
FindsRecords file at (Ok names) = (first_refusal (all_checks version_table file at) ≡ None) × (names ≡ record_names file at)
FindsRecords file at (Err fault) = RefusedBy (all_checks version_table file at) fault

-- all records of a section are left, with their string table
pub record AreRecords (file : List ℕ) (kind : VersionKind) (at : ℕ) (records : VersionRecordPosition) : Type 0 where
  pub pass : first_refusal (all_checks version_table file at) ≡ None
  pub left : records_left file records ≡ section_versions kind file at
  pub names : record { at = records.strings_at; size = records.strings_len } ≡ record_names file at

-- WHAT A CALLER HAS of a section of definitions or needs: a position before the first, in a table
-- whose checks pass; or that there is no such section; or the first check that fails, until the
-- section headers are loaded or of the table
abbrev pub ReadsRecords : List ℕ → ℕ → ℕ → Result (Option VersionRecordPosition) Refusal → Type 0
ReadsRecords file headers section (Ok (Some records)) =
    (load_refused file headers ≡ None) × (section < e_shnum file)
    × ((kind : VersionKind) × (first_kind file (section_at file section) ≡ Some kind) × AreRecords file kind (section_at file section) records)
ReadsRecords file headers section (Ok None) =
    (load_refused file headers ≡ None) × ((e_shnum file ≤ section) ⊎ (first_kind file (section_at file section) ≡ None))
ReadsRecords file headers section (Err refusal) =
    (load_refused file headers ≡ Some refusal)
    ⊎ ((load_refused file headers ≡ None) × (section < e_shnum file)
    × (first_refusal (all_checks version_table file (section_at file section)) ≡ Some refusal))

-- THE ENTRIES of symbols' versions of the section with this header: one for each symbol that has
-- one
abbrev pub version_words : List ℕ → ℕ → RowPosition
version_words file at = record {
  at = sh_offset file at;
  count = if sh_size file at == 0 then 0 else versioned_count file at;
  index = 0;
  entry = VERSYM_SIZE;
  strings_at = 0;
  strings_len = 0;
}

-- the entry at an offset of a file: the version index, and whether it is hidden
pub record IsVersionWord (file : List ℕ) (at : ℕ) (word : Versym) : Type 0 where
  pub number : word.number ≡ number_in (versym file at)
  pub hidden : word.is_hidden ≡ if versym file at == number_in (versym file at) then 0 else 1
