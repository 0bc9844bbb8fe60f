-- What is reported of one file among many.
use Rattle.std.specs.Prelude.{ℕ, ◌≡◌, ◌≤◌, ◌^◌, ◌⊎◌, false, List, max, Result, Ok, Err, OnOk, OnErr}
use Rattle.elf_walk.specs.Statuses.{state_status}
use Rattle.elf_model.specs.Prelude.{check_line}
use Rattle.elf_model.specs.declared.states.FileStatus.{FileStatus}
use Rattle.elf_model.specs.declared.formats.Format.{Format}
use Rattle.elf_model.specs.declared.states.FileStatus.TheVariants.{Memory, Unread}
use Rattle.elf_source.specs.Prelude.{CountedState, IsWholeRange, OutPuts, OutState}
use Rattle.elf_source.specs.declared.faults.OutFault.{OutFault}

-- a source as it is when a file is opened: a range of all its bytes, of which nothing is masked,
-- and not much was requested
pub record StandsWhole (c : CountedState) : Type 0 where
  pub whole : IsWholeRange c.seen
  pub shows : c.hides ≡ false
  pub few : c.asked ≤ 2 ^ 126

-- many files: their output, how lines are written, by which rule each is visited, the status so
-- far, and how many paths cannot be represented
pub record Tally (A : Type 0) : Type 0 where
  pub out : OutState
  pub format : Format
  pub rule : A
  pub status : ℕ
  pub unnamed : ℕ

-- the rule is unchanged
pub record KeepsRule {A : Type 0} (old new : Tally A) : Type 0 where
  pub format : new.format ≡ old.format
  pub rule : new.rule ≡ old.rule

-- the line of one file in a state, and the status that its state requires; at a fault of the output
-- the status is unchanged
pub record ReturnsLine {A X : Type 0} (state : FileStatus) (path : List ℕ) (result : Result X OutFault) (old new : Tally A) : Type 0 where
  pub puts : OutPuts old.out new.out result (check_line old.format state path)
  pub status : OnOk result (new.status ≡ max old.status (state_status state))
  pub stays : OnErr result (new.status ≡ old.status)
  pub unnamed : new.unnamed ≡ old.unnamed
  pub rule : KeepsRule old new

-- a file required a status, of which the larger one is kept; at a fault of the output the status is
-- unchanged
abbrev pub KeepsStatus : {X : Type 0} → Result ℕ OutFault → Result X OutFault → (old new : ℕ) → Type 0
KeepsStatus (Ok status) (Ok x) old new = new ≡ max old status
KeepsStatus (Err fault) (Err same) old new = (same ≡ fault) × (new ≡ old)
KeepsStatus _ _ old new = ⊥

-- WHAT IS REPORTED OF A SOURCE among many, as `tells` says of the output before and after and of
-- the result
pub record ReturnsSource {A X : Type 0} (tells : OutState → OutState → Result ℕ OutFault → Type 0) (result : Result X OutFault) (old new : Tally A) : Type 0 where
  pub answer : Result ℕ OutFault
  pub told : tells old.out new.out answer
  pub status : KeepsStatus answer result old.status new.status
  pub unnamed : new.unnamed ≡ old.unnamed
  pub rule : KeepsRule old new

-- a file that cannot be opened has the line of its state
pub record ReturnsUnopenedFile {A X : Type 0} (path : List ℕ) (result : Result X OutFault) (old new : Tally A) : Type 0 where
  pub state : FileStatus
  pub unopened : (state ≡ Unread) ⊎ (state ≡ Memory)
  pub tells : ReturnsLine state path result old new

-- one that is opened is reported by its source, from which nothing was requested before
pub record ReturnsOpenFile {A X : Type 0} (tells : CountedState → CountedState → OutState → OutState → Result ℕ OutFault → Type 0) (result : Result X OutFault) (old new : Tally A) : Type 0 where
  pub before : CountedState
  pub after : CountedState
  pub unasked : before.asked ≡ 0
  pub source : ReturnsSource (tells before after) result old new

-- WHAT IS REPORTED OF A FILE by its path
abbrev pub ReturnsFile : {A X : Type 0} → (List ℕ → CountedState → CountedState → OutState → OutState → Result ℕ OutFault → Type 0) → List ℕ → Result X OutFault → (old new : Tally A) → Type 0
ReturnsFile tells path result old new = ReturnsUnopenedFile path result old new ⊎ ReturnsOpenFile (tells path) result old new
