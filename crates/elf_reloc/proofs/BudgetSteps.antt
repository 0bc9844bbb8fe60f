-- What is requested within a limit, and what the refusal `Budget` implies, stage by stage.
use Rattle.std.proofs.Common.{◌≡◌, ℕ, ◌+◌, ◌-◌, ◌*◌, ◌≤◌, Bool, true, false, min, Result, Ok, Err, arith}
use Rattle.std.specs.Prelude.{IfErr, List}
use Rattle.std.proofs.Math.Nat.{mul-le-mul_right}
use Rattle.elf_model.specs.Prelude.{Layout, apply_cost, apply_cost_by_order, apply_cost_in_order, cost_with, offsets_never_fall, window_passes}
use Rattle.elf_source.specs.Prelude.{CountedState, OutState, ReadsUpTo}
use Rattle.elf_source.proofs.ReadsLaws.{IsSourceFault-then, KeepsSource-then}
use Rattle.elf_table.specs.Prelude.{IsOfCheck, IsReadFault, stop_of}
use Rattle.elf_table.specs.declared.fault.Fault.{Fault}
use Rattle.elf_table.specs.declared.run_fault.RunFault.{RunFault}
use Rattle.elf_reloc.specs.Prelude.{ApplySays, BudgetTooSmall, ReadsWithin, windows, write_passes}

-- what was requested
pub spends_reads : {a b : CountedState} {n : ℕ} (k : ℕ) → ReadsUpTo a b n → b.asked ≤ a.asked + k → ReadsWithin a b k
spends_reads {b = b} k reads asked = grind arith

pub spends_to : {a b : CountedState} {n : ℕ} (k : ℕ) → ReadsWithin a b n → b.asked ≤ a.asked + k → ReadsWithin a b k
spends_to k spends asked = grind arith

pub spends_then : {a b c : CountedState} {n m : ℕ} (k : ℕ) → ReadsUpTo a b n → ReadsWithin b c m → c.asked ≤ a.asked + k → ReadsWithin a c k
spends_then k reads spends asked = grind (arith, KeepsSource-then)

-- a fault of a read
pub fault_applies : (a b : CountedState) (out : OutState) (n k : ℕ) (fault : Fault) → n ≤ k → IsReadFault a b n fault → ApplySays a b out k (stop_of fault)
fault_applies a b out n k fault few says = grind arith

-- a check's refusal is not one
pub check_applies : (a b : CountedState) (out : OutState) (k : ℕ) (fault : Fault) → IsOfCheck fault → ApplySays a b out k (stop_of fault)
check_applies a b out k fault check = grind arith

-- `Budget` is what a fault implies
pub says_wants : (a b : CountedState) (out : OutState) (n : ℕ) (fault : RunFault) → ApplySays a b out n fault → BudgetTooSmall a n fault
says_wants a b out n fault says = grind arith

pub fault_wants : (a b : CountedState) (n k : ℕ) (out : OutState) (fault : Fault) → n ≤ k → IsReadFault a b n fault → BudgetTooSmall a k (stop_of fault)
fault_wants a b n k out fault few says = says_wants a b out k (stop_of fault) (fault_applies a b out n k fault few says)

pub check_wants : (a : CountedState) (k : ℕ) (fault : Fault) → IsOfCheck fault → BudgetTooSmall a k (stop_of fault)
check_wants a k fault check = grind arith

-- the same after reads
pub says_after : {a b : CountedState} {n : ℕ} (c : CountedState) (out : OutState) (m k : ℕ) (fault : RunFault) → ReadsUpTo a b n → b.asked + m ≤ a.asked + k → ApplySays b c out m fault → ApplySays a c out k fault
says_after {a = a} {b = b} c out m k fault reads within says = grind (arith, IsSourceFault-then)

pub wants_after : {a b : CountedState} {n : ℕ} (m k : ℕ) (fault : RunFault) → ReadsUpTo a b n → b.asked + m ≤ a.asked + k → BudgetTooSmall b m fault → BudgetTooSmall a k fault
wants_after {a = a} {b = b} m k fault reads within wants = grind arith

-- for a result
module _ {X : Type 0} (result : Result X RunFault) where
  by_fault : {P Q : RunFault → Type 0} → ((fault : RunFault) → P fault → Q fault) → IfErr result P → IfErr result Q
  by_fault {P = P} {Q = Q} step h = of_result result h
    where
      of_result : (r : Result X RunFault) → IfErr r P → IfErr r Q
      of_result (Ok x) h = tt
      of_result (Err fault) h = step fault h

  pub all_wants : (a b : CountedState) (out : OutState) (n : ℕ) → IfErr result (ApplySays a b out n) → IfErr result (BudgetTooSmall a n)
  all_wants a b out n says = by_fault (says_wants a b out n) says

  pub all_says_after : {a b : CountedState} {n : ℕ} (c : CountedState) (out : OutState) (m k : ℕ) → ReadsUpTo a b n → b.asked + m ≤ a.asked + k → IfErr result (ApplySays b c out m) → IfErr result (ApplySays a c out k)
  all_says_after c out m k reads within says = by_fault (λ fault said. says_after c out m k fault reads within said) says

  pub all_wants_after : {a b : CountedState} {n : ℕ} (m k : ℕ) → ReadsUpTo a b n → b.asked + m ≤ a.asked + k → IfErr result (BudgetTooSmall b m) → IfErr result (BudgetTooSmall a k)
  all_wants_after m k reads within wants = by_fault (λ fault wanted. wants_after m k fault reads within wanted) wants

  -- by the order of the entries
  pub order_wants :
      (src : CountedState) (file : List ℕ) (headers section : ℕ) (layout : Layout) (base : ℕ)
      → (offsets_never_fall file section ≡ true → IfErr result (BudgetTooSmall src (cost_with file headers section layout 2 - base)))
      → IfErr result (BudgetTooSmall src (cost_with file headers section layout (window_passes file section) - base))
      → IfErr result (BudgetTooSmall src (apply_cost_by_order file headers section layout - base))
  unfolding apply_cost apply_cost_in_order apply_cost_by_order
  order_wants src file headers section layout base never falls = grind arith

-- a check, and then the passes that write
pub checked_most : (walk size : ℕ) → walk ≤ (1 + windows size) * walk + size
checked_most walk size = grind arith

pub all_sum : (rises : Bool) (walk size before middle : ℕ) → middle ≤ before + walk → middle + (write_passes rises size * walk + size) ≤ before + ((1 + windows size) * walk + size)
all_sum true walk size before middle h =
    let few : min 1 (windows size) * walk ≤ windows size * walk = mul-le-mul_right walk (let less : min 1 (windows size) ≤ windows size = omega arith in less) in omega (arith, few, h)
all_sum false walk size before middle h = omega (arith, h)

pub twice_sum : (rises : Bool) (walk size before middle : ℕ) → rises ≡ true → middle ≤ before + walk → middle + (write_passes rises size * walk + size) ≤ before + (2 * walk + size)
twice_sum true walk size before middle is h =
    let few : min 1 (windows size) * walk ≤ 1 * walk = mul-le-mul_right walk (let one : min 1 (windows size) ≤ 1 = omega arith in one) in omega (arith, few, h)
twice_sum false walk size before middle is h = cc
