-- What is reported of one checked file among many.
use Rattle.std.specs.Prelude.{ℕ, ◌≡◌, ◌+◌, ◌≤◌, Bool, true, false, List, Some, Result, IfOk}
use Rattle.elf_model.specs.Prelude.{ListingStyle, check_line}
use Rattle.elf_model.specs.declared.states.FileStatus.{FileStatus}
use Rattle.elf_source.specs.Prelude.{CountedState, OutPuts, OutState}
use Rattle.elf_source.specs.declared.faults.OutFault.{OutFault}
use Rattle.elf_options.specs.Prelude.{style_of}
use Rattle.elf_options.specs.declared.caps.Caps.{Caps}
use Rattle.elf_walk.specs.Checked.{FailsRead}
use Rattle.elf_walk.specs.Statuses.{state_status}
use Rattle.elf_walk.specs.CheckedFile.{AsksNoMore, FindsState, check_ceiling, check_cost}
use Rattle.elf_walk.specs.Members.{FindsSorted, sorted_ceiling, sorted_cost}

-- the state that is found for a file: that of its listing or, if members are checked, by its type
abbrev pub Finds : (members : Bool) → Caps → ℕ → List ℕ → FileStatus → Type 0
Finds true = FindsSorted
Finds false = FindsState

-- what its check may request
abbrev pub cost_of_check : (members : Bool) → Caps → List ℕ → ℕ → ListingStyle → ℕ → ℕ
cost_of_check true caps file headers style parts = sorted_cost caps file headers style parts
cost_of_check false caps file headers style parts = check_cost file headers style parts

-- the same for any source
abbrev pub ceiling_of_check : (members : Bool) → ℕ → ℕ → ListingStyle → ℕ
ceiling_of_check true = sorted_ceiling
ceiling_of_check false = check_ceiling

-- THE CHECK of a file among many, by its source and the output before and after: the line of the
-- state that its own listing has if the file is known, unread only if a read failed, and the status
-- that this requires; at most the listing's cost, and the budget of a file, is requested from the
-- source
pub record ReturnsState (members : Bool) (caps : Caps) (parts : ℕ) (path : List ℕ) (before after : CountedState) (old new : OutState) (answer : Result ℕ OutFault) : Type 0 where
  pub state : FileStatus
  pub found : (file : List ℕ) → before.seen.file ≡ Some file → Finds members caps parts file state
  pub read : FailsRead before after state
  pub puts : OutPuts old new answer (check_line caps.style.format state path)
  pub status : IfOk answer (λ status. status ≡ state_status state)
  pub cost : (file : List ℕ) → before.seen.file ≡ Some file → after.asked ≤ before.asked + cost_of_check members caps file caps.limits.headers (style_of caps.style) parts
  pub asks : AsksNoMore (ceiling_of_check members before.seen.size caps.limits.headers (style_of caps.style)) caps.limits.budget before after
