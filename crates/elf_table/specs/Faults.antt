-- What a fault of a read implies.
use Rattle.std.specs.Prelude.{◌≡◌, ℕ, ◌<◌, List, None, Some, Result, Ok, Err}
use Rattle.elf_model.specs.Prelude.{IsBudgetRefusal, first_refusal, header_checks}
use Rattle.elf_model.specs.declared.causes.Cause.TheVariants.{Budget}
use Rattle.elf_model.specs.declared.causes.Refusal.{Refusal}
use Rattle.elf_record.specs.Prelude.{IsEhdr}
use Rattle.elf_record.specs.declared.ehdr.Ehdr.{Ehdr}
use Rattle.elf_source.specs.Source.{SourceState, CountedState, IsSourceFault, ExceedsBudget}
use Rattle.elf_table.specs.declared.fault.Fault.{Fault}
use Rattle.elf_table.specs.declared.fault.Fault.TheVariants.{Refused, Source}

-- what a refusal implies for the source, by reads of at most n bytes: nothing, unless its cause is
-- `Budget`; then it points to the read that stopped
abbrev pub IsReadRefusal : CountedState → CountedState → ℕ → Refusal → Type 0
IsReadRefusal old new n refusal = IsBudgetRefusal refusal → (refusal.at < old.seen.size) × ExceedsBudget old new n × (refusal.at ≡ new.stopped)

-- what a fault implies for the source, by reads of at most n bytes: the source's own points to the
-- read that stopped
abbrev pub IsReadFault : CountedState → CountedState → ℕ → Fault → Type 0
IsReadFault old new n (Refused refusal) = IsReadRefusal old new n refusal
IsReadFault old new n (Source fault at) = IsSourceFault old.seen new.seen fault × (at ≡ new.stopped)

-- what a fault implies for the source if no limit is set: the source's own points to the read that
-- stopped, and no refusal has the cause `Budget`
abbrev pub IsUnlimitedReadFault : CountedState → CountedState → Fault → Type 0
IsUnlimitedReadFault old new (Refused refusal) = IsBudgetRefusal refusal → ⊥
IsUnlimitedReadFault old new (Source fault at) = IsSourceFault old.seen new.seen fault × (at ≡ new.stopped)

-- a fault of a read at an offset: the source's, or the refusal `Budget`
abbrev pub IsAt : ℕ → Fault → Type 0
IsAt at (Refused refusal) = refusal ≡ record { at = at; cause = Budget }
IsAt at (Source fault offset) = offset ≡ at

-- the source was read once, or not at all if the read budget was exhausted
abbrev pub FillsOnce : {X : Type 0} → (SourceState → ℕ → ℕ → SourceState → Type 0) → SourceState → SourceState → ℕ → ℕ → Result X Fault → Type 0
FillsOnce one_read old new at n (Ok x) = one_read old at n new
FillsOnce one_read old new at n (Err (Refused refusal)) = new ≡ old
FillsOnce one_read old new at n (Err (Source fault offset)) = one_read old at n new

-- a fault of a read at some offset
abbrev pub IsOfRead : Fault → Type 0
IsOfRead (Refused refusal) = IsBudgetRefusal refusal
IsOfRead (Source fault at) = Unit {0}

-- a refusal by a check, and no fault of a read
abbrev pub IsOfCheck : Fault → Type 0
IsOfCheck (Refused refusal) = IsBudgetRefusal refusal → ⊥
IsOfCheck (Source fault at) = ⊥

-- the result of reading a file's header: its fields, or the first check that fails
abbrev pub HeaderRead : List ℕ → Result Ehdr Fault → Type 0
HeaderRead file (Ok header) = (first_refusal (header_checks file) ≡ None) × IsEhdr file 0 header
HeaderRead file (Err (Refused refusal)) = (IsBudgetRefusal refusal → ⊥) → first_refusal (header_checks file) ≡ Some refusal
HeaderRead file (Err (Source fault at)) = Unit {0}
