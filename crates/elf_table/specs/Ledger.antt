-- The effect of a call on its source, and its result if the file of the source is known.
use Rattle.std.specs.Prelude.{ℕ, ◌≡◌, List, Option, None, Some, Result, Ok, Err, IfSome}
use Rattle.elf_source.specs.Source.{CountedState, ReadsUpTo}
use Rattle.elf_table.specs.Faults.{IsOfRead, IsReadFault}
use Rattle.elf_table.specs.declared.fault.Fault.{Fault}

-- why a call stopped, if it did
abbrev pub fault_of_result : {X : Type 0} → Result X Fault → Option Fault
fault_of_result (Ok x) = None
fault_of_result (Err fault) = Some fault

-- THE COST OF A CALL, for every source: it requests at most n bytes, it keeps the source and the
-- limit, and if it stops the fault satisfies `IsReadFault`
pub record CallReads (old new : CountedState) (stop : Option Fault) (n : ℕ) : Type 0 where
  pub reads : ReadsUpTo old new n
  pub says : IfSome stop (IsReadFault old new n)

-- THE EFFECT OF A CALL: its cost, and what it implies for the file, if that is known
pub record CallDid (old new : CountedState) (stop : Option Fault) (n : ℕ) (tells : List ℕ → Type 0) : Type 0 where
  pub costs : CallReads old new stop n
  pub known : (file : List ℕ) → old.seen.file ≡ Some file → tells file

-- a read returns a value of the file, or its fault
abbrev pub IsRead : Result ℕ Fault → ℕ → Type 0
IsRead (Ok x) value = x ≡ value
IsRead (Err fault) value = IsOfRead fault
