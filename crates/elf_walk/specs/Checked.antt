-- The state of a file among many that is too short for a file header, or was not read.
use Rattle.std.specs.Prelude.{ℕ, ◌≡◌, ◌<◌, List, length, Option, Some, ⊤}
use Rattle.elf_model.specs.Prelude.{state_of}
use Rattle.elf_model.specs.declared.states.FileStatus.{FileStatus}
use Rattle.elf_model.specs.declared.causes.Refusal.{Refusal}
use Rattle.elf_model.specs.declared.causes.Cause.TheVariants.{Short}
use Rattle.elf_model.specs.declared.states.FileStatus.TheVariants as state
use Rattle.elf_source.specs.Source.{CountedState, IsHonest}

-- the refusal of a file that is too short for a file header
abbrev pub short_refusal : List ℕ → Refusal
short_refusal file = record { at = length file; cause = Short }

-- the state that is found for such a file: that of this refusal within the budget, unless a read
-- failed
abbrev pub FindsShort : Option ℕ → List ℕ → FileStatus → Type 0
FindsShort budget file state.Unread = ⊤
FindsShort budget file found = found ≡ state_of budget file (Some (short_refusal file))

-- a file that was not read: a read of it failed, or its source is not honest; reporting it
-- allocates nothing, so memory is never lacking
abbrev pub FailsRead : CountedState → CountedState → FileStatus → Type 0
FailsRead old new state.Unread = IsHonest new.seen → old.seen.failures < new.seen.failures
FailsRead old new state.Memory = ⊥
FailsRead old new _ = ⊤
