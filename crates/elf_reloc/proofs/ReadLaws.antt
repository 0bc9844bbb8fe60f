-- What a fault implies for reads one after another, and if no limit is set.
use Rattle.std.proofs.Common.{◌≡◌, ℕ, ◌+◌, ◌≤◌, None, Result, arith}
use Rattle.std.specs.Prelude.{IfErr}
use Rattle.elf_source.specs.Source.{CountedState, ReadsUpTo}
use Rattle.elf_source.proofs.ReadsLaws.{IsSourceFault-then}
use Rattle.elf_table.specs.Prelude.{IsOfCheck, IsReadFault, IsUnlimitedReadFault}
use Rattle.elf_table.specs.declared.fault.Fault.{Fault}

-- without a limit nothing is refused with `Budget`
pub not_over : (a b : CountedState) (n : ℕ) (fault : Fault) → a.most ≡ None → IsReadFault a b n fault → IsUnlimitedReadFault a b fault
not_over a b n fault none says = grind arith

-- a fault after other reads
pub IsUnlimitedReadFault-then : (a b c : CountedState) (n : ℕ) (fault : Fault) → ReadsUpTo a b n → IsUnlimitedReadFault b c fault → IsUnlimitedReadFault a c fault
IsUnlimitedReadFault-then a b c n fault reads says = grind (arith, IsSourceFault-then)

-- the same with a bound on all reads
pub IsReadFault-then : (a b c : CountedState) (n m k : ℕ) (fault : Fault) → ReadsUpTo a b n → b.asked + m ≤ a.asked + k → IsReadFault b c m fault → IsReadFault a c k fault
IsReadFault-then a b c n m k fault reads within says = grind (arith, IsSourceFault-then)

-- a looser bound
pub IsReadFault-more : (a b : CountedState) (n k : ℕ) (fault : Fault) → n ≤ k → IsReadFault a b n fault → IsReadFault a b k fault
IsReadFault-more a b n k fault within says = grind arith

-- a check's refusal is no fault of a read
pub check_says : {X : Type 0} (a b : CountedState) (n : ℕ) (result : Result X Fault) → IfErr result IsOfCheck → IfErr result (IsReadFault a b n)
check_says a b n result check = grind arith
