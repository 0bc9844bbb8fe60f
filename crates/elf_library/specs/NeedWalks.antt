-- The versions that a file needs, as they are read.
use Rattle.std.specs.Prelude.{ℕ, ◌≡◌, ◌+◌, ◌*◌, ◌/◌, ◌<◌, ◌≤◌, Bool, true, false, List, [], ◌∷◌, Option, None, Some, Result, Ok, Err, IfOk, IfSome}
use Rattle.elf_model.specs.Prelude.{NeedRefused, IsBudgetRefusal, NeededVersion, NeededVersionRead, Needs, SOUGHT_BYTES, Version, VersionRecordTable as IsTableOf, max_records, name_bytes, needed_versions, record_cost, state_by_segments, without_sections}
use Rattle.elf_model.specs.declared.causes.Refusal.{Refusal}
use Rattle.elf_model.specs.declared.states.VersionState.{VersionState}
use Rattle.elf_model.specs.declared.versions.VersionKind.TheVariants.{Definition}
use Rattle.elf_source.specs.Source.{CountedState}
use Rattle.elf_table.specs.Prelude.{CallDid, fault_of_result}
use Rattle.elf_table.specs.declared.fault.Fault.{Fault}
use Rattle.elf_table.specs.declared.fault.Fault.TheVariants.{Refused, Source}
use Rattle.elf_hash.specs.Prelude.{IsVersionRecordTable, RefusesAs, ReturnsAs, VersionRecordsInBounds}
use Rattle.elf_note.specs.Prelude.{IsCursorOf, bytes_each}
use Rattle.elf_note.specs.declared.record_position.RecordPosition.{RecordPosition}
use Rattle.elf_loader.proofs.LeftReadings.{left_of}
use Rattle.elf_library.specs.Kept.{LookupObjectState}
use Rattle.elf_library.specs.Looks.{SpendsAtMost, SpendsBudget}
use Rattle.elf_library.specs.declared.needed_versions.NeedsWalk.{NeedsWalk}

-- a walk reads each record of its table alone, in a source of this size
pub record StepsNeeds (size : ℕ) (walk : NeedsWalk) : Type 0 where
  pub lies : VersionRecordsInBounds size walk.records
  pub going : walk.cursor.failed ≡ None
  pub its_table : walk.cursor.held.table ≡ walk.records.table
  pub alone : walk.cursor.held.whole ≡ false
  pub each : walk.cursor.each ≡ bytes_each walk.records.kind
  pub fewer : walk.cursor.left ≤ max_records walk.records.kind walk.records.table.count

-- how many records are left to be read
abbrev pub need_records_left : NeedsWalk → ℕ
need_records_left walk = walk.cursor.left

-- a record was read: one fewer is left
pub record NeedsWalkGoesOn (size : ℕ) (old new : NeedsWalk) : Type 0 where
  pub steps : StepsNeeds size new
  pub one_fewer : need_records_left new < need_records_left old

-- the same, if one was
abbrev pub GoesOnIf : (size : ℕ) → (old new : NeedsWalk) → Result (Option Bool) Fault → Type 0
GoesOnIf size old new result = IfOk result (λ step. IfSome step (λ is_version. NeedsWalkGoesOn size old new))

-- the version that was read last
abbrev pub needed_of : NeedsWalk → NeededVersion
needed_of walk = record { library = walk.library; name = walk.name; hash = walk.hash; weak = walk.weak }

-- the records of a walk are those of a file
pub record IsNeedsOf (file : List ℕ) (told : IsTableOf) (walk : NeedsWalk) : Type 0 where
  pub is : IsVersionRecordTable file told walk.records
  pub agrees : IsCursorOf file walk.cursor

-- what is left to be read of them
abbrev pub needs_left : List ℕ → IsTableOf → NeedsWalk → List NeededVersionRead
needs_left file told walk = needed_versions file walk.library (left_of file told.strings [] walk.cursor)

-- WHAT IS READ is the first of what was left: a version, or a file's name, or the refusal, except
-- one for lack of budget
abbrev pub ReturnsNeed : (all left : List NeededVersionRead) → NeedsWalk → Result Bool Fault → Type 0
ReturnsNeed all left walk (Ok true) = all ≡ Needs (needed_of walk) ∷ left
ReturnsNeed all left walk (Ok false) = all ≡ left
ReturnsNeed all left walk (Err (Refused refusal)) = (IsBudgetRefusal refusal → ⊥) → all ≡ NeedRefused refusal ∷ []
ReturnsNeed all left walk (Err (Source fault at)) = Unit {0}

-- the same, or nothing was left
abbrev pub ReturnsNeedIf : (all left : List NeededVersionRead) → NeedsWalk → Result (Option Bool) Fault → Type 0
ReturnsNeedIf all left walk (Ok (Some is_version)) = ReturnsNeed all left walk (Ok is_version)
ReturnsNeedIf all left walk (Ok None) = all ≡ []
ReturnsNeedIf all left walk (Err fault) = ReturnsNeed all left walk (Err fault)

-- a step of a walk over the records of a file
pub record StepsNeedsOf (file : List ℕ) (told : IsTableOf) (old new : NeedsWalk) (result : Result (Option Bool) Fault) : Type 0 where
  pub is : IsNeedsOf file told new
  pub tells : ReturnsNeedIf (needs_left file told old) (needs_left file told new) new result

-- how many bytes a step may read: the record, and its name
abbrev pub need_bytes : ℕ
need_bytes = 28 + name_bytes SOUGHT_BYTES

-- WHAT READING ONE RECORD DID to a source
pub record ReadsNextNeed (walk_old walk_new : NeedsWalk) (old new : CountedState) (result : Result (Option Bool) Fault) : Type 0 where
  pub did : CallDid old new (fault_of_result result) need_bytes (λ file. (told : IsTableOf) → IsNeedsOf file told walk_old → StepsNeedsOf file told walk_old walk_new result)
  pub goes : GoesOnIf old.seen.size walk_old walk_new result

-- THE EFFECT OF READING ONE RECORD of what a file needs
pub record ReadsNeed (walk_old walk_new : NeedsWalk) (old new : LookupObjectState) (left_old left_new : Option ℕ) (result : Result (Option Bool) Fault) : Type 0 where
  pub costs : SpendsAtMost old.src new.src left_old (fault_of_result result) need_bytes
  pub same_headers : new.headers ≡ old.headers
  pub pays : SpendsBudget left_old left_new old.src.asked new.src.asked
  pub goes : GoesOnIf new.src.seen.size walk_old walk_new result
  pub known : (file : List ℕ) → old.src.seen.file ≡ Some file → (told : IsTableOf) → IsNeedsOf file told walk_old → StepsNeedsOf file told walk_old walk_new result

-- THE EFFECT OF SEARCHING A NEEDED VERSION in a file that should have it: at most the records of
-- its definitions and as many names are read
pub record FindsVersionState (needed : NeedsWalk) (old new : LookupObjectState) (left_old left_new : Option ℕ) (result : Result (Option VersionState) Fault) : Type 0 where
  pub costs : SpendsAtMost old.src new.src left_old (fault_of_result result) (old.src.seen.size / 8 * record_cost (Version needed.name))
  pub same_headers : new.headers ≡ old.headers
  pub pays : SpendsBudget left_old left_new old.src.asked new.src.asked
  pub known : (file : List ℕ) → old.src.seen.file ≡ Some file → ReturnsAs (Ok (state_by_segments (without_sections file) (needed_of needed))) result

-- whether a version is defined, by one record and the others: it is the record's, or that of the
-- others; or the refusal, except one for lack of budget
abbrev pub DefinesOne : (all left : Result Bool Refusal) → Result Bool Fault → Type 0
DefinesOne all left (Ok true) = all ≡ Ok true
DefinesOne all left (Ok false) = all ≡ left
DefinesOne all left (Err fault) = RefusesAs all fault

-- a walk over definitions reads only these
abbrev pub AtDefinition : Option RecordPosition → Type 0
AtDefinition standing = IfSome standing (λ s. s.kind ≡ Definition)
