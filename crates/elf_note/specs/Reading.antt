-- What a cursor over symbol versions yields, record by record.
use Rattle.std.specs.Prelude.{ℕ, ◌≡◌, ◌+◌, ◌*◌, ◌^◌, IfOk, IfSome, MatchOption, ◌<◌, ◌≤◌, if◌then◌else◌, Bool, true, List, Option, None, Some, Result, Ok, Err, option_map}
use Rattle.elf_model.specs.Prelude.{DEFINED_NAME_SIZE, DEFINITION_SIZE, IsBudgetRefusal, NEED_SIZE, RecordCursorState, VERSION_NUMBERS, Versions, VisitedRecord, first_position, first_refusal, flags_word, hash_word, max_records, name_index, named_at, next_position, no_versions, number_in, number_word, record_checks, record_size, slice, visited_at, visited_from, vn_next, with_visited}
use Rattle.elf_model.specs.declared.versions.VersionKind.TheVariants.{Definition, File, Need}
use Rattle.elf_model.specs.declared.versions.VersionKind.{VersionKind}
use Rattle.elf_table.specs.Prelude.{CallDid, IsOfRead, TableInBounds, TableRange, fault_of_result}
use Rattle.elf_table.specs.declared.fault.Fault.{Fault}
use Rattle.elf_table.specs.declared.fault.Fault.TheVariants.{Refused, Source}
use Rattle.elf_source.specs.Source.{CountedState}
use Rattle.elf_note.specs.Words.{HoldsWords}
use Rattle.elf_note.specs.declared.record_fields.VersionRecordFields.{VersionRecordFields}
use Rattle.elf_note.specs.declared.record.VersionRecord.{VersionRecord}
use Rattle.elf_note.specs.declared.record_position.RecordPosition.{RecordPosition}
use Rattle.elf_note.specs.declared.record_reader.VersionRecordStep.{VersionRecordStep}

-- a table whose bytes are held, all of them, or are read piece by piece
pub record BufferedTable : Type 0 where
  pub table : TableRange
  pub whole : Bool
  pub bytes : List ℕ

-- what is held is the file's
abbrev pub IsHeldOf : List ℕ → BufferedTable → Type 0
IsHeldOf file h = h.whole ≡ true → h.bytes ≡ slice file h.table.at h.table.count

-- how many of n bytes are requested: none if they are held
abbrev pub unheld : BufferedTable → ℕ → ℕ
unheld h n = if h.whole then 0 else n

-- a table within a source of this size has its bytes up to a place
pub record HasUpTo (size : ℕ) (h : BufferedTable) (stop : ℕ) : Type 0 where
  pub within : TableInBounds size h.table
  pub inside : stop ≤ h.table.count
  pub low : h.table.count < 2 ^ 64

-- the effect of a call that reads in a table: it requests n bytes if they are not held, and if what
-- is held is the file's, the given statement holds of the file
abbrev pub DidHeld : {X : Type 0} → CountedState → CountedState → BufferedTable → Result X Fault → ℕ → (List ℕ → Type 0) → Type 0
DidHeld before after h result n tells = CallDid before after (fault_of_result result) (unheld h n) (λ file. IsHeldOf file h → tells file)

-- a read returns bytes of the file, or its fault
abbrev pub GivesBytes : {X : Type 0} → List ℕ → List ℕ → Result X Fault → Type 0
GivesBytes wanted bytes (Ok x) = bytes ≡ wanted
GivesBytes wanted bytes (Err fault) = IsOfRead fault

-- the position of a walk, in the terms of the model
abbrev pub record_position_of : RecordPosition → RecordCursorState
record_position_of s = record { kind = s.kind; place = s.place; from = s.from; owner = s.owner }

-- for a needed version, the distance from its file to the next is known
abbrev pub KnowsFiles : List ℕ → ℕ → RecordPosition → Type 0
KnowsFiles file table s = s.kind ≡ Need → s.files ≡ vn_next file (table + s.owner)

abbrev pub KnowsAhead : List ℕ → ℕ → Option RecordPosition → Type 0
KnowsAhead file table None = Unit {0}
KnowsAhead file table (Some s) = KnowsFiles file table s

-- a cursor: its table with what is held of it, the position of the walk, how many records may still
-- be visited, how many bytes each may read, and the fault if it failed
pub record VersionCursorState : Type 0 where
  pub held : BufferedTable
  pub standing : Option RecordPosition
  pub left : ℕ
  pub each : ℕ
  pub failed : Option Fault

-- how many bytes a cursor may still read
abbrev pub unread : VersionCursorState → ℕ
unread c = unheld c.held (c.left * c.each)

-- what a cursor has is the file's
pub record IsCursorOf (file : List ℕ) (c : VersionCursorState) : Type 0 where
  pub held : IsHeldOf file c.held
  pub ahead : KnowsAhead file c.held.table.at c.standing

-- the records of a file that are still to be visited, up to the refusal of an invalid one
abbrev pub versions_left : List ℕ → VersionCursorState → Versions
versions_left file c = visited_from file c.held.table.at c.held.table.count (option_map record_position_of c.standing) c.left

-- how many bytes a record of a table may read: a definition, with its name
abbrev pub bytes_each : VersionKind → ℕ
bytes_each kind = elim kind [ Definition ↦ DEFINITION_SIZE + DEFINED_NAME_SIZE | File ↦ NEED_SIZE | Need ↦ NEED_SIZE ]

-- a cursor before the first record of a table, whose header or tag is at an offset
pub record StartsVersions (kind : VersionKind) (head : ℕ) (table : TableRange) (c : VersionCursorState) : Type 0 where
  pub its_table : c.held.table ≡ table
  pub standing : option_map record_position_of c.standing ≡ first_position kind head table.count
  pub left : c.left ≡ max_records kind table.count
  pub each : c.each ≡ bytes_each kind
  pub not_failed : c.failed ≡ None

-- a record as a cursor yields it is one of the file
pub record IsVersion (file : List ℕ) (met : VisitedRecord) (given : VersionRecord) : Type 0 where
  pub kind : given.kind ≡ met.kind
  pub at : given.at ≡ met.at
  pub number : given.number ≡ number_word file met
  pub flags : given.flags ≡ flags_word file met
  pub hash : given.hash ≡ hash_word file met
  pub named_at : given.named_at ≡ named_at file met
  pub name : given.name ≡ name_index file met

-- the records that were left are one, as it is yielded, and those that are left now
pub record GivesVersion (file : List ℕ) (old new : Versions) (given : VersionRecord) : Type 0 where
  pub met : VisitedRecord
  pub first : old ≡ with_visited met new
  pub is : IsVersion file met given

-- the relation of a step of a cursor to the records left before and after it: one is yielded; none
-- was left; or what was left is refused, unless a read failed
abbrev pub ReturnsVersion : List ℕ → Versions → Versions → Result (Option VersionRecord) Fault → Type 0
ReturnsVersion file old new (Ok (Some given)) = GivesVersion file old new given
ReturnsVersion file old new (Ok None) = old ≡ no_versions None
ReturnsVersion file old new (Err (Refused refusal)) = (IsBudgetRefusal refusal → ⊥) → old ≡ no_versions (Some refusal)
ReturnsVersion file old new (Err (Source fault at)) = Unit {0}

-- the position after a visited record is that of the walk from then on
abbrev pub LeadsOn : List ℕ → VersionCursorState → VersionCursorState → Type 0
LeadsOn file old new = IfSome old.standing (λ s. option_map record_position_of new.standing ≡ next_position file old.held.table.at (record_position_of s))

-- a step of a cursor in a file: what it holds stays the file's, and its result is the file's
pub record StepsIn (file : List ℕ) (old new : VersionCursorState) (result : Result (Option VersionRecord) Fault) : Type 0 where
  pub agrees : IsCursorOf file new
  pub tells : old.failed ≡ None → ReturnsVersion file (versions_left file old) (versions_left file new) result
  pub leads : IfOk result (λ step. IfSome step (λ given. LeadsOn file old new))

-- a step that yields no record may have read one, which is in the table; from then on one fewer is
-- left
pub record SpendsRecord (old new : VersionCursorState) : Type 0 where
  pub one : old.left ≤ new.left + 1
  pub there : new.left < old.left → MatchOption old.standing ⊥ (λ s. s.place + record_size s.kind ≤ old.held.table.count)

-- the position of a cursor after a step
abbrev pub LeavesWalk : VersionCursorState → VersionCursorState → Result (Option VersionRecord) Fault → Type 0
LeavesWalk old new (Ok (Some given)) =
    (old.failed ≡ None) × (new.failed ≡ None) × (new.left + 1 ≡ old.left) × (number_in given.number < VERSION_NUMBERS)
LeavesWalk old new (Ok None) = (old.failed ≡ None) × (new ≡ old)
LeavesWalk old new (Err fault) = (new.failed ≡ Some fault) × SpendsRecord old new

-- why a step stopped, if it did: a cursor that had failed reads nothing, and its fault says nothing
-- of the source
abbrev pub why_stopped_now : {X : Type 0} → Option Fault → Result X Fault → Option Fault
why_stopped_now None result = fault_of_result result
why_stopped_now (Some fault) result = None

-- how many bytes are read of the structure that holds the index of a name, besides the record
abbrev pub index_bytes : VersionKind → ℕ
index_bytes kind = elim kind [ Definition ↦ 4 | File ↦ 0 | Need ↦ 0 ]

-- a read returns the fields of a record, or its fault
abbrev pub WordsRead : List ℕ → VisitedRecord → Result VersionRecordFields Fault → Type 0
WordsRead file met (Ok words) = HoldsWords file met words
WordsRead file met (Err fault) = IsOfRead fault

-- the position after a record, and what is known there is the file's
pub record LeadsTo (file : List ℕ) (table : ℕ) (stand : RecordCursorState) (next : Option RecordPosition) : Type 0 where
  pub leads : option_map record_position_of next ≡ next_position file table stand
  pub knows : KnowsAhead file table next

-- a record of a table that is read, and the position after it: its checks pass, and it is the
-- file's; or the first check that fails
pub record IsStep (file : List ℕ) (table size : ℕ) (stand : RecordCursorState) (step : VersionRecordStep) : Type 0 where
  pub passes : first_refusal (record_checks file table size stand) ≡ None
  pub is : IsVersion file (visited_at table stand) step.record
  pub leads : option_map record_position_of step.next ≡ next_position file table stand
  pub knows : KnowsAhead file table step.next

abbrev pub ReadsRecord : List ℕ → ℕ → ℕ → RecordCursorState → Result VersionRecordStep Fault → Type 0
ReadsRecord file table size stand (Ok step) = IsStep file table size stand step
ReadsRecord file table size stand (Err (Refused refusal)) = (IsBudgetRefusal refusal → ⊥) → first_refusal (record_checks file table size stand) ≡ Some refusal
ReadsRecord file table size stand (Err (Source fault at)) = Unit {0}

-- the position of a walk is not far past a table of `size` bytes, a needed version's file is in it,
-- and the next record reads no more than `each` bytes
pub record IsPositionInTable (size each : ℕ) (s : RecordPosition) : Type 0 where
  pub near : s.place < 2 ^ 64 + 2 ^ 32
  pub owner : s.owner ≤ size
  pub pays : bytes_each s.kind ≤ each

-- in any table a record's version index is small, and the position after it fits
pub record StepFits (size each : ℕ) (step : VersionRecordStep) : Type 0 where
  pub number : number_in step.record.number < VERSION_NUMBERS
  pub next : IfSome step.next (IsPositionInTable size each)

-- the relation of visiting the next record to the records left before and after it
abbrev pub ReturnsMet : List ℕ → Versions → Versions → Result VersionRecord Fault → Type 0
ReturnsMet file old new (Ok given) = GivesVersion file old new given
ReturnsMet file old new (Err (Refused refusal)) = (IsBudgetRefusal refusal → ⊥) → old ≡ no_versions (Some refusal)
ReturnsMet file old new (Err (Source fault at)) = Unit {0}

pub record MeetsIn (file : List ℕ) (old new : VersionCursorState) (result : Result VersionRecord Fault) : Type 0 where
  pub agrees : IsCursorOf file new
  pub tells : ReturnsMet file (versions_left file old) (versions_left file new) result
  pub leads : IfOk result (λ given. LeadsOn file old new)

abbrev pub LeavesVisited : VersionCursorState → VersionCursorState → Result VersionRecord Fault → Type 0
LeavesVisited old new (Ok given) = (new.failed ≡ None) × (new.left + 1 ≡ old.left) × (number_in given.number < VERSION_NUMBERS)
LeavesVisited old new (Err fault) = (new.failed ≡ None) × SpendsRecord old new

-- what every step keeps, fault or not: the table and what is held of it; a cursor that had failed
-- is unchanged
pub record KeepsWalk (old new : VersionCursorState) : Type 0 where
  pub same_held : new.held ≡ old.held
  pub same_each : new.each ≡ old.each
  pub fewer : new.left ≤ old.left
  pub unchanged : (fault : Fault) → old.failed ≡ Some fault → new ≡ old
