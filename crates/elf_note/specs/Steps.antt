-- What a step of a cursor reads.
use Rattle.std.specs.Prelude.{ℕ, ◌≡◌, Option, None, Some, Result, Err, IfErr}
use Rattle.elf_source.specs.Source.{CountedState, ReadsUpTo}
use Rattle.elf_table.specs.Prelude.{IsReadFault}
use Rattle.elf_table.specs.declared.fault.Fault.{Fault}

-- WHAT A STEP READS, fault or not: it requests at most n bytes, and the first fault satisfies
-- `IsReadFault`; a cursor that had failed returns the same fault, and reads nothing
pub record StepReads {X : Type 0} (before after : CountedState) (n : ℕ) (failed : Option Fault) (result : Result X Fault) : Type 0 where
  pub reads : ReadsUpTo before after n
  pub says : failed ≡ None → IfErr result (IsReadFault before after n)
  pub again : (fault : Fault) → failed ≡ Some fault → (result ≡ Err fault) × (after ≡ before)
