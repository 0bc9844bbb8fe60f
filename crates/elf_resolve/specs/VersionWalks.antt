-- Version records of a shared library in a buffer, and the names that are found in them.
use Rattle.std.specs.Prelude.{ℕ, ◌≡◌, ◌+◌, ◌-◌, ◌<◌, ◌≤◌, ◌^◌, ◌==◌, ◌⊎◌, min, if◌then◌else◌, List, [], ◌++◌, length, Option, None, Some, Result, Ok, Err}
use Rattle.std.specs.Borrow.{Bor}
use Rattle.elf_model.specs.Bytes.{field, slice}
use Rattle.elf_model.specs.Checks.{first_refusal}
use Rattle.elf_model.specs.LinkArchives.{refusal_of}
use Rattle.elf_model.specs.LinkSymbols.{as_any, followed}
use Rattle.elf_model.specs.Records.{sh_offset, sh_size, vn_next}
use Rattle.elf_model.specs.Tables.{section_bytes, strings_of}
use Rattle.elf_model.specs.Versions.{RecordCursorState, VERSION_NUMBERS, along, next_position, number_in, record_checks, visited_at, visited_from}
use Rattle.elf_model.specs.declared.causes.Cause.{Cause}
use Rattle.elf_model.specs.declared.causes.Cause.TheVariants.{BadVersion, VersionCut, VersionIndex}
use Rattle.elf_model.specs.declared.link_states.LinkCause.TheVariants as cause
use Rattle.elf_model.specs.declared.link_states.LinkRefusal.{LinkRefusal}
use Rattle.elf_model.specs.declared.versions.VersionKind.{VersionKind}
use Rattle.elf_model.specs.declared.versions.VersionKind.TheVariants.{File, Need}
use Rattle.elf_resolve.specs.LibraryVersions.{NumberedName, name_of_number, names_of_record, names_visited}
use Rattle.elf_resolve.specs.ObjectSymbols.{HoldsSome}
use Rattle.elf_resolve.specs.StringBuffers.{HoldsText}
use Rattle.elf_resolve.specs.VersionTexts.{text_of_number}
use Rattle.elf_resolve.specs.declared.link_faults.LinkFault.{LinkFault}
use Rattle.elf_resolve.specs.declared.link_faults.LinkFault.TheVariants.{Refused, Read, Open, Memory}
use Rattle.elf_resolve.specs.declared.string_buffer.HeldText.{HeldText}
use Rattle.elf_resolve.specs.declared.version_records.RecordPlace.{RecordPlace}
use Rattle.elf_resolve.specs.declared.version_room.VersionNames.{VersionNames}
use Rattle.elf_resolve.specs.declared.version_records.VersionSection.{VersionSection}

-- A SECTION OF VERSION RECORDS and its strings are in a buffer; its header is at an offset
pub record HoldsVersions (file bytes : List ℕ) (at : ℕ) (table : VersionSection) : Type 0 where
  pub records : HoldsText bytes table.records (section_bytes file at)
  pub strings : HoldsText bytes table.strings (strings_of file at)
  pub whole : length (section_bytes file at) ≡ sh_size file at
  pub at_is : table.at ≡ sh_offset file at
  pub header_is : table.header ≡ at
  pub fits : table.at + sh_size file at < 2 ^ 64

-- THE NAMES of versions are in a buffer, by their indexes
pub record HoldsVersionNames (bytes : List ℕ) (texts : List (Option HeldText)) (names : List NumberedName) : Type 0 where
  pub room : length texts ≡ VERSION_NUMBERS
  pub names_are : (number : ℕ) → HoldsSome bytes (text_of_number texts number) (name_of_number names number)

-- no index has a name, for any bytes of a buffer
pub record HoldsNoNames (versions : VersionNames) : Type 0 where
  pub defined : (bytes : List ℕ) → HoldsVersionNames bytes versions.defined.items []
  pub needed : (bytes : List ℕ) → HoldsVersionNames bytes versions.needed.items []

-- a fault is the refusal that a file has, and no other
abbrev pub IsRecordRefusal : Option LinkRefusal → LinkFault → Type 0
IsRecordRefusal known (Refused refusal) = known ≡ Some refusal
IsRecordRefusal known Read = ⊥
IsRecordRefusal known Open = ⊥
IsRecordRefusal known Memory = ⊥

-- NAMES READ: those that are known are held, or their refusal is the fault
abbrev pub ReadsNames : Result (List NumberedName) LinkRefusal → (bytes : List ℕ) → List (Option HeldText) → Result (Unit {0}) LinkFault → Type 0
ReadsNames known bytes texts (Ok done) = (names : List NumberedName) × (known ≡ Ok names) × HoldsVersionNames bytes texts names
ReadsNames known bytes texts (Err fault) = IsRecordRefusal (refusal_of known) fault

-- THE BYTES OF A RECORD at a place of a section, or it ends before them
abbrev pub file_fault : (at : ℕ) → Cause → LinkFault
file_fault at why = Refused (record { at = at; cause = cause.Refused why })

abbrev pub FindsBytes : (section : List ℕ) → RecordPlace → (size : ℕ) → Result (Bor (List ℕ)) LinkFault → Type 0
FindsBytes section place size (Ok bytes) = (place.start + size ≤ length section) × (bytes.now ≡ slice section place.start size)
FindsBytes section place size (Err fault) = (length section < place.start + size) × (fault ≡ file_fault place.led_by VersionCut)

-- the bytes of a record of the only form there is, or it has another
abbrev pub FindsRecord : (section : List ℕ) → RecordPlace → (size : ℕ) → Result (Bor (List ℕ)) LinkFault → Type 0
FindsRecord section place size (Ok bytes) = FindsBytes section place size (Ok bytes) × (field bytes.now 0 2 ≡ 1)
FindsRecord section place size (Err fault) =
    FindsBytes section place size (Err fault)
    ⊎ ((place.start + size ≤ length section) × (field (slice section place.start size) 0 2 ≡ 1 → ⊥) × (fault ≡ file_fault place.at BadVersion))

-- a version index that is not too large
abbrev pub FindsNumber : (word at : ℕ) → Result ℕ LinkFault → Type 0
FindsNumber word at (Ok number) = (number ≡ number_in word) × (number < VERSION_NUMBERS)
FindsNumber word at (Err fault) = (VERSION_NUMBERS ≤ number_in word) × (fault ≡ file_fault at VersionIndex)

-- the place at a distance from another, which led there
abbrev pub place_along : RecordPlace → (distance : ℕ) → RecordPlace
place_along place distance = record {
  start = min (place.start + distance) (2 ^ 64 - 1);
  at = min (place.at + distance) (2 ^ 64 - 1);
  led_by = place.at;
}

abbrev pub next_along : RecordPlace → (distance : ℕ) → Option RecordPlace
next_along place distance = if distance == 0 then None else Some (place_along place distance)

-- the place of the first record of a section
abbrev pub first_along : VersionSection → Option RecordPlace
first_along table = if table.records.size == 0 then None else Some (record { start = 0; at = table.at; led_by = table.header })

-- no place is next, or the record there is one too many
abbrev pub PassesAll : Option RecordPlace → Result (Unit {0}) LinkFault → Type 0
PassesAll next (Ok done) = next ≡ None
PassesAll next (Err fault) = (place : RecordPlace) × (next ≡ Some place) × (fault ≡ file_fault place.led_by VersionCut)

-- A PLACE is that of a record of a table, which another offset led to
pub record IsRecordPlace (table at from : ℕ) (place : RecordPlace) : Type 0 where
  pub start : place.start ≡ min at (2 ^ 64 - 1)
  pub at_is : place.at ≡ min (table + at) (2 ^ 64 - 1)
  pub led_by : place.led_by ≡ from

-- A PLACE is that of the state of a walk; none is the state in which a walk ends
abbrev pub state_at : VersionKind → (owner at from : ℕ) → RecordCursorState
state_at kind owner at from = record { kind = kind; place = at; from = from; owner = owner }

abbrev pub IsNextRecord : VersionKind → (owner : ℕ) → (end : Option RecordCursorState) → (table : ℕ) → Option RecordCursorState → Option RecordPlace → Type 0
IsNextRecord kind owner end table state None = state ≡ end
IsNextRecord kind owner end table state (Some place) = (at : ℕ) × (from : ℕ) × (state ≡ Some (state_at kind owner at from)) × IsRecordPlace table at from place

-- what the record of a state names, or why it is refused
unfoldable pub names_here : List ℕ → (at : ℕ) → RecordCursorState → Result (List NumberedName) LinkRefusal
names_here file at stand = elim (first_refusal (record_checks file (sh_offset file at) (sh_size file at) stand)) [
  | Some refusal ↦ Err (as_any refusal)
  | None ↦ names_of_record file (strings_of file at) (visited_at (sh_offset file at) stand)
]

-- what is named from a state of a walk on, by at most so many records
unfoldable pub names_from : List ℕ → (at : ℕ) → Option RecordCursorState → (most : ℕ) → Result (List NumberedName) LinkRefusal
names_from file at state most = names_visited file (strings_of file at) (visited_from file (sh_offset file at) (sh_size file at) state most)

-- A RECORD READ: what it names is held after other names, and the next place is known; or its refusal
-- is the fault
abbrev pub ReadsVersionRecord : (file bytes : List ℕ) → (at : ℕ) → RecordCursorState → List NumberedName → List (Option HeldText) → (end : Option RecordCursorState) → Result (Option RecordPlace) LinkFault → Type 0
ReadsVersionRecord file bytes at stand names texts end (Ok next) =
    (more : List NumberedName) × (names_here file at stand ≡ Ok more) × HoldsVersionNames bytes texts (names ++ more)
    × IsNextRecord stand.kind stand.owner end (sh_offset file at) (next_position file (sh_offset file at) stand) next
ReadsVersionRecord file bytes at stand names texts end (Err fault) = IsRecordRefusal (refusal_of (names_here file at stand)) fault

-- where the versions of a needed file lead, whose record is at a place: to the next file
abbrev pub after_file : List ℕ → (at owner : ℕ) → Option RecordCursorState
after_file file at owner = along (sh_offset file at) File owner (vn_next file (sh_offset file at + owner)) 0

-- THE VERSIONS OF A NEEDED FILE READ, of which the first is at a place; some records are left
abbrev pub ReadsVersions : (file bytes : List ℕ) → (at owner place from left : ℕ) → List NumberedName → List (Option HeldText) → Result ℕ LinkFault → Type 0
ReadsVersions file bytes at owner place from left names texts (Ok rest) =
    (more : List NumberedName)
    × (names_from file at (Some (state_at Need owner place from)) left ≡ followed more (names_from file at (after_file file at owner) rest))
    × HoldsVersionNames bytes texts (names ++ more)
ReadsVersions file bytes at owner place from left names texts (Err fault) = IsRecordRefusal (refusal_of (names_from file at (Some (state_at Need owner place from)) left)) fault

-- A WALK so far: what is known to be named is what was read, and then what is named from its state on
pub record WalksNames (file bytes : List ℕ) (at : ℕ) (kind : VersionKind) (owner : ℕ) (end : Option RecordCursorState) (known : Result (List NumberedName) LinkRefusal) (names : List NumberedName)
    (left : ℕ) (texts : List (Option HeldText)) (next : Option RecordPlace) : Type 0 where
  pub state : Option RecordCursorState
  pub done : List NumberedName
  pub known_is : known ≡ followed done (names_from file at state left)
  pub holds : HoldsVersionNames bytes texts (names ++ done)
  pub next_is : IsNextRecord kind owner end (sh_offset file at) state next
