-- What a call that writes to memory returns to its caller.
use Rattle.std.specs.Prelude.{ℕ, ◌≡◌, Bool, true, false, List, Result, Ok, Err}
use Rattle.elf_table.specs.declared.run_fault.RunFault.TheVariants.{Out}
use Rattle.elf_table.specs.declared.run_fault.RunFault.{RunFault}
use Rattle.elf_table.specs.declared.run_fault.RunFault.TheVariants.{Refused as IsRefused, Source}
use Rattle.elf_capi.specs.Ends.{ReturnsCause, ReturnsNone}
use Rattle.elf_capi.specs.declared.end.CallEnd.{CallEnd}
use Rattle.elf_capi.specs.declared.call_status.CallStatus.{CallStatus}
use Rattle.elf_capi.specs.declared.call_status.CallStatus.TheVariants.{Done, Refused, Full, BadCall}

-- what a call returns by its result, if there were not more bytes than fit the memory
abbrev pub told_of : {X : Type 0} → Result X RunFault → CallStatus
told_of (Ok x) = Done
told_of (Err (IsRefused refusal)) = Refused refusal
told_of (Err (Source fault at)) = Full
told_of (Err (Out fault)) = Full

-- what a call returns by its result and by whether there were
abbrev pub status_from : {X : Type 0} → Result X RunFault → Bool → CallStatus
status_from result true = Full
status_from result false = told_of result

-- a call that is refused for its numbers leaves the memory unchanged, and reads nothing
abbrev pub Untouched : List ℕ → List ℕ → CallEnd → Type 0
Untouched old new end = (new ≡ old) × (end.written ≡ 0) × (end.asked ≡ 0)

-- the result as numbers: the status, and the cause and the offset of a refusal
abbrev pub IsStatus : ℕ → CallEnd → CallStatus → Type 0
IsStatus status end Done = (status ≡ 0) × ReturnsNone end × (end.none ≡ 0)
IsStatus status end (Refused refusal) = (status ≡ 1) × ReturnsCause end refusal × (end.none ≡ 0)
IsStatus status end Full = (status ≡ 3) × ReturnsNone end × (end.none ≡ 0)
IsStatus status end BadCall = (status ≡ 4) × ReturnsNone end × (end.none ≡ 0)
