-- The exit status of a check over many files: the largest that a file's state requires.
use Rattle.std.specs.Prelude.{ℕ}
use Rattle.elf_model.specs.declared.states.FileStatus.{FileStatus}
use Rattle.elf_model.specs.declared.states.FileStatus.TheVariants as state

-- the status that a state requires
abbrev pub state_status : FileStatus → ℕ
state_status state.Ok = 0
state_status state.NoElf = 0
state_status (state.Refused refusal) = 1
state_status state.Unread = 3
state_status state.Memory = 3
