-- When `Budget` is refused.
use Rattle.std.proofs.Common.{◌≡◌, ℕ, ◌+◌, ◌≤◌, List, Result, Ok, Err, IfErr, true, inl, inr, refl, ap, sym, ◌∙◌, arith}
use Rattle.elf_model.specs.Prelude.{IsBudgetRefusal}
use Rattle.elf_model.specs.declared.causes.Refusal.{Refusal}
use Rattle.elf_reloc.specs.Applied.{OverBudget}
use Rattle.elf_source.specs.Prelude.{CountedState, ExceedsBudget, MasksSectionHeaders, ReadsUpTo}
use Rattle.elf_table.specs.Prelude.{IsOfCheck, IsReadFault, stop_of}
use Rattle.elf_table.specs.declared.fault.Fault.{Fault}
use Rattle.elf_table.specs.declared.fault.Fault.TheVariants as fault
use Rattle.elf_table.specs.declared.run_fault.RunFault.{RunFault}
use Rattle.elf_table.specs.declared.run_fault.RunFault.TheVariants.{Out, Refused, Source}
use Rattle.elf_image.specs.ImageWrites.{RefusesOverLimit}
use Rattle.elf_image.specs.Written.{AllowsBytes, BudgetDecides}

-- what is over a limit after reads is over it with them
over_later : {a b : CountedState} {k : ℕ} (n m : ℕ) → ReadsUpTo a b k → b.asked + n ≤ a.asked + m → OverBudget b n → OverBudget a m
over_later n m reads within over = record { most = over.most; is_set = sym reads.same_limit ∙ over.is_set; above = omega (arith, over.above, within) }

module _ (is_large : Type 0) (answer : Result (List ℕ) Refusal) where
  -- by a check
  pub check-limits : (src : CountedState) (n : ℕ) (fault : Fault) → IsOfCheck fault → RefusesOverLimit src n is_large answer (stop_of fault)
  check-limits src n (fault.Refused refusal) says = λ budget. absurd (says budget)
  check-limits src n (fault.Source reason at) says = absurd says

  -- by a read
  pub read-limits : (a b : CountedState) (n m : ℕ) (fault : Fault) → n ≤ m → IsReadFault a b n fault → RefusesOverLimit a m is_large answer (stop_of fault)
  read-limits a b n m (fault.Refused refusal) few says = λ budget.
      let over = says budget in
      inr (omega (arith, over.0), record { most = over.1.most; is_set = over.1.is_set; above = omega (arith, over.1.above, few) })
  read-limits a b n m (fault.Source reason at) few says = tt

  -- before bytes are written, after reads
  pub budget-limits : {a b : CountedState} {k : ℕ} (X : Type 0) (at cost m : ℕ) (fault : Fault) → at ≤ a.seen.size → ReadsUpTo a b k → b.asked + cost ≤ a.asked + m
      → BudgetDecides {X = X} b at cost (Err fault) → RefusesOverLimit a m is_large answer (stop_of fault)
  budget-limits X at cost m (fault.Refused refusal) inside reads within decides = λ budget.
      let place = ap (λ (r : Refusal). r.at) decides.0 in
      inr (omega (arith, place, inside), over_later cost m reads within decides.1)
  budget-limits X at cost m (fault.Source reason offset) inside reads within decides = absurd decides

  -- within a limit that allows all bytes none is refused
  pub allowed-limits : {X : Type 0} (a b c : CountedState) (cost m : ℕ) (result : Result X RunFault) → AllowsBytes b cost
      → IfErr result (λ fault. (refusal : Refusal) → fault ≡ Refused refusal → IsBudgetRefusal refusal → ExceedsBudget b c cost) → IfErr result (RefusesOverLimit a m is_large answer)
  allowed-limits a b c cost m (Ok x) allows refuses = tt
  allowed-limits a b c cost m (Err (Refused refusal)) allows refuses = λ budget.
      let over = refuses refusal refl budget in
      let within = allows over.most over.is_set in
      absurd (omega (arith, within, over.above))
  allowed-limits a b c cost m (Err (Source reason at)) allows refuses = tt
  allowed-limits a b c cost m (Err (Out reason)) allows refuses = tt

  -- after reads; a segment whose relocations are checked is not too large
  pub limits-later : {X P : Type 0} {a b : CountedState} {k : ℕ} (n m : ℕ) (result : Result X RunFault) → ReadsUpTo a b k → b.asked + n ≤ a.asked + m → (P → is_large)
      → IfErr result (RefusesOverLimit b n P answer) → IfErr result (RefusesOverLimit a m is_large answer)
  limits-later n m (Ok x) reads within large says = tt
  limits-later n m (Err (Refused refusal)) reads within large says = λ budget. elim (says budget) [
    | inl own ↦ inl (large own.0, own.1)
    | inr over ↦ inr (omega (arith, over.0, reads.keeps.same_size), over_later n m reads within over.1)
  ]
  limits-later n m (Err (Source reason at)) reads within large says = tt
  limits-later n m (Err (Out reason)) reads within large says = tt

  -- while fields of the file header are masked
  pub limits-masked : {X : Type 0} {a b : CountedState} (n : ℕ) (result : Result X RunFault) → MasksSectionHeaders a b true → IfErr result (RefusesOverLimit b n is_large answer)
      → IfErr result (RefusesOverLimit a n is_large answer)
  limits-masked n (Ok x) hide says = tt
  limits-masked n (Err (Refused refusal)) hide says = λ budget. elim (says budget) [
    | inl own ↦ inl own
    | inr over ↦ inr (
      omega (arith, over.0, hide.same_size),
      record { most = over.1.most; is_set = sym hide.same_limit ∙ over.1.is_set; above = omega (arith, over.1.above, hide.same_asked) },
    )
  ]
  limits-masked n (Err (Source reason at)) hide says = tt
  limits-masked n (Err (Out reason)) hide says = tt
