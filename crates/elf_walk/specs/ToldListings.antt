-- What is reported of one listed file among many.
use Rattle.std.specs.Prelude.{ℕ, ◌≡◌, ◌+◌, ◌≤◌, List, Option, None, Some, Bool, false, Result, Ok, Err, IfOk, IfSome, true}
use Rattle.elf_model.specs.Prelude.{check_line, file_magic, list_status, path_line}
use Rattle.elf_model.specs.declared.states.FileMagic.{FileMagic}
use Rattle.elf_model.specs.declared.formats.Format.{Format}
use Rattle.elf_model.specs.declared.states.FileStatus.TheVariants.{Unread}
use Rattle.elf_model.specs.declared.states.FileMagic.TheVariants as sort
use Rattle.elf_source.specs.Prelude.{CountedState, OutPuts, OutState}
use Rattle.elf_source.specs.declared.faults.OutFault.{OutFault}
use Rattle.elf_options.specs.Prelude.{style_of}
use Rattle.elf_options.specs.declared.caps.Limits.{Limits}
use Rattle.elf_table.specs.declared.run_fault.RunFault.TheVariants.{Out}
use Rattle.elf_table.specs.declared.run_fault.RunFault.{RunFault}
use Rattle.elf_table.specs.declared.run_fault.RunFault.TheVariants.{Refused, Source}
use Rattle.elf_walk.specs.Checked.{FailsRead}
use Rattle.elf_walk.specs.Fronts.{AreLimitsAfter, front_asked}
use Rattle.elf_walk.specs.Lists.{ListsHeaded, sort_ceiling, sort_cost}
use Rattle.elf_walk.specs.declared.options.ListOptions.{ListOptions}

-- a file that is not read: its line and its status
abbrev pub PutsUnread : Format → List ℕ → (old new : OutState) → Result ℕ OutFault → Type 0
PutsUnread format path old new answer = OutPuts old new answer (check_line format Unread path) × IfOk answer (λ status. status ≡ 3)

-- what is reported when a listing ends: for one that was written its status; if a read of it failed
-- the line of a file that is not read
abbrev pub EndsListing : Format → List ℕ → Result Bool RunFault → (old new : OutState) → Result ℕ OutFault → Type 0
EndsListing format path (Ok refused) old new answer = (new ≡ old) × (answer ≡ Ok (list_status None refused))
EndsListing format path (Err (Refused refusal)) old new answer = (new ≡ old) × (answer ≡ Ok (list_status (Some refusal) false))
EndsListing format path (Err (Source fault at)) old new answer = PutsUnread format path old new answer
EndsListing format path (Err (Out fault)) old new answer = (new ≡ old) × (answer ≡ Err fault)

-- the listing of a file of a type after the line of its path, within what is left of the budget,
-- and its end
pub record ListsFile (kind : FileMagic) (rule : ListOptions) (path : List ℕ) (before : CountedState) (old new : OutState) (answer : Result ℕ OutFault) : Type 0 where
  pub limits : Limits
  pub after : AreLimitsAfter rule.members rule.caps.limits before.seen.size limits
  pub result : Result Bool RunFault
  pub between : OutState
  pub lists : (file : List ℕ) → before.seen.file ≡ Some file
      → ListsHeaded kind (path_line rule.caps.style.format path) file limits (style_of rule.caps.style) rule.parts.0 old between result
  pub ends : EndsListing rule.caps.style.format path result between new answer

-- nothing is written of a file of another kind, nor of an archive without its members' bytes
abbrev pub is_unlisted : FileMagic → Bool
is_unlisted sort.Foreign = true
is_unlisted sort.Thin = true
is_unlisted _ = false

-- what is reported by the type of a file: nothing of one of another type; if a read of its first
-- bytes failed, that it is not read
abbrev pub ToldOf : Option FileMagic → ListOptions → List ℕ → CountedState → (old new : OutState) → Result ℕ OutFault → Type 0
ToldOf None rule path before old new answer = PutsUnread rule.caps.style.format path old new answer
ToldOf (Some sort.Foreign) rule path before old new answer = (new ≡ old) × (answer ≡ Ok 0)
ToldOf (Some sort.Thin) rule path before old new answer = (new ≡ old) × (answer ≡ Ok 0)
ToldOf (Some kind) rule path before old new answer = ListsFile kind rule path before old new answer

-- how many bytes the listing of a file of a type reads at most
abbrev pub kind_cost : Option FileMagic → ListOptions → List ℕ → ℕ
kind_cost None rule file = 0
kind_cost (Some kind) rule file = sort_cost kind file rule.caps.limits.headers (style_of rule.caps.style) rule.parts.0

abbrev pub kind_ceiling : Option FileMagic → ListOptions → ℕ → ℕ
kind_ceiling None rule size = 0
kind_ceiling (Some kind) rule size = sort_ceiling kind size rule.caps.limits.headers (style_of rule.caps.style)

-- THE LISTING of a file among many, by its source and the output before and after: what its own
-- bytes give, independently of the files before it; unread only if a read failed; at most the magic
-- bytes and the listing's cost, and the budget of a file, is requested from the source
pub record ReturnsListing (rule : ListOptions) (path : List ℕ) (before after : CountedState) (old new : OutState) (answer : Result ℕ OutFault) : Type 0 where
  pub kind : Option FileMagic
  pub finds : (file : List ℕ) → before.seen.file ≡ Some file → IfSome kind (λ found. found ≡ file_magic rule.members rule.caps.limits.budget file)
  pub told : ToldOf kind rule path before old new answer
  pub read : answer ≡ Ok 3 → FailsRead before after Unread
  pub cost : (file : List ℕ) → before.seen.file ≡ Some file
      → after.asked ≤ before.asked + front_asked rule.members rule.caps.limits.budget before.seen.size + kind_cost kind rule file
  pub ceiling : after.asked ≤ before.asked + front_asked rule.members rule.caps.limits.budget before.seen.size + kind_ceiling kind rule before.seen.size
  pub budget : IfSome rule.caps.limits.budget (λ bytes. after.asked ≤ before.asked + bytes)
