-- What is read before a check of what was read.
use Rattle.std.proofs.Common.{ℕ, ◌≤◌, Result, Ok, Err, IfErr}
use Rattle.elf_source.specs.Source.{CountedState}
use Rattle.elf_table.proofs.LedgerLaws.{CallDid-stop, CallReads-more}
use Rattle.elf_table.specs.Prelude.{CallReads, IsOfCheck, fault_of_result}
use Rattle.elf_table.specs.declared.fault.Fault.{Fault}
use Rattle.std.specs.Prelude.{None}

-- a check after it reads nothing
pub checked_after : {X : Type 0} {a b : CountedState} {n : ℕ} (k : ℕ) → n ≤ k → (result : Result X Fault) → IfErr result IsOfCheck → CallReads a b None n → CallReads a b (fault_of_result result) k
checked_after k within (Ok x) check reads = CallReads-more k within reads
checked_after k within (Err fault) check reads =
    CallReads-more k within (CallDid-stop {P = λ file. Unit {0}} fault check (record { costs = reads; known = λ file held. tt })).costs
