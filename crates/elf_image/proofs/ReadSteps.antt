-- What calls read, one after another.
use Rattle.std.proofs.Common.{◌≡◌, ℕ, ◌+◌, ◌≤◌, ◌==◌, true, false, Option, None, Some, Result, IfErr, inl, inr, refl, arith}
use Rattle.std.specs.Prelude.{IfSome}
use Rattle.std.proofs.lemmas.Bool.{cases_Bool, eqb-true}
use Rattle.elf_model.specs.ImageValues.{dynamic_type, dynamic_type_in, dynamic_types, uses_no_symbol}
use Rattle.elf_model.specs.declared.dynamic_types.DynamicType.{DynamicType}
use Rattle.elf_model.specs.declared.dynamic_types.DynamicType.TheVariants.{Resolved}
use Rattle.elf_source.specs.Source.{CountedState}
use Rattle.elf_source.proofs.ReadsLaws.{ReadsUpTo-then, ReadsUpTo-to}
use Rattle.elf_table.specs.Faults.{IsOfCheck, IsReadFault}
use Rattle.elf_table.specs.Ledger.{CallReads, fault_of_result}
use Rattle.elf_table.specs.declared.fault.Fault.{Fault}
use Rattle.elf_table.proofs.LedgerLaws.{CallReads-more, CallReads-none}
use Rattle.elf_reloc.proofs.ReadLaws.{IsReadFault-then}
use Rattle.elf_image.proofs.ToldSteps.{reads_check}

-- nothing was read, and a check may have refused
pub unread_checked : {X : Type 0} (a : CountedState) (n : ℕ) (result : Result X Fault) → IfErr result IsOfCheck → CallReads a a (fault_of_result result) n
unread_checked a n result check = reads_check result check (CallReads-more n (omega arith) (CallReads-none a))

-- a call after another, by how much they read together
after_says : (a b c : CountedState) (n m k : ℕ) (stop : Option Fault) → CallReads a b None n → b.asked + m ≤ a.asked + k
    → IfSome stop (IsReadFault b c m) → IfSome stop (IsReadFault a c k)
after_says a b c n m k None p within says = tt
after_says a b c n m k (Some fault) p within says = IsReadFault-then a b c n m k fault p.reads within says

pub reads_after : {a b c : CountedState} {stop : Option Fault} {n m : ℕ} (k : ℕ) → CallReads a b None n → CallReads b c stop m → b.asked + m ≤ a.asked + k
    → CallReads a c stop k
reads_after {a = a} {b = b} {c = c} {stop = stop} {n = n} {m = m} k p q within = record {
  reads = ReadsUpTo-to (ReadsUpTo-then p.reads q.reads) (omega (arith, q.reads.at_most, within));
  says = after_says a b c n m k stop p within q.says;
}

-- for a symbol, unless there is none
pub reads_unless : {a b : CountedState} {stop : Option Fault} (n m most : ℕ) → (n ≡ m → CallReads a b stop 0) → CallReads a b stop most
    → CallReads a b stop (elim (n == m) [ true ↦ 0 | false ↦ most ])
reads_unless n m most none some = elim (cases_Bool (n == m)) [
  | inl same ↦ rw same (none (eqb-true n m same))
  | inr other ↦ rw other some
]

-- an entry of R_X86_64_IRELATIVE uses no symbol
pub resolved_unused : (kind : ℕ) (found : DynamicType) → kind ≡ 37 → dynamic_type kind ≡ Some found → uses_no_symbol found ≡ true
unfolding dynamic_type dynamic_type_in dynamic_types
resolved_unused kind found is e =
    let known : dynamic_type kind ≡ Some Resolved = rw is refl in
    let same : found ≡ Resolved = cc in
    rw same refl
