-- The result of consecutive reads.
use Rattle.std.proofs.Common.{ℕ, ◌+◌, ◌≤◌, ◌∙◌, sym, refl, arith}
use Rattle.elf_source.specs.Prelude.{CountedState, ExceedsBudget, IsSourceFault, KeepsSource, ReadsUpTo, SourceState}
use Rattle.elf_source.specs.declared.faults.SourceFault.TheVariants.{Device, Ended}
use Rattle.elf_source.specs.declared.faults.SourceFault.{SourceFault}

pub KeepsSource-then : {a b c : SourceState} → KeepsSource a b → KeepsSource b c → KeepsSource a c
KeepsSource-then p q = record { same_size = q.same_size ∙ p.same_size; no_fewer = omega arith; same_file = q.same_file ∙ p.same_file; same_whole = q.same_whole ∙ p.same_whole }

KeepsSource-all : (s : SourceState) → KeepsSource s s
KeepsSource-all s = record { same_size = refl; no_fewer = omega arith; same_file = refl; same_whole = refl }

-- nothing was read
pub ReadsUpTo-none : (c : CountedState) (n : ℕ) → ReadsUpTo c c n
ReadsUpTo-none c n = record {
  keeps = KeepsSource-all c.seen;
  grows = omega arith;
  at_most = omega arith;
  same_limit = refl;
  view = record { keeps = KeepsSource-all c.source; hides = refl };
}

-- reads, and then others
pub ReadsUpTo-then : {a b c : CountedState} {n m : ℕ} → ReadsUpTo a b n → ReadsUpTo b c m → ReadsUpTo a c (n + m)
ReadsUpTo-then p q = record {
  keeps = KeepsSource-then p.keeps q.keeps;
  grows = omega arith;
  at_most = omega arith;
  same_limit = q.same_limit ∙ p.same_limit;
  view = record { keeps = KeepsSource-then p.view.keeps q.view.keeps; hides = q.view.hides ∙ p.view.hides };
}

-- reads, with an equal bound
pub ReadsUpTo-to : {a b : CountedState} {n k : ℕ} → ReadsUpTo a b n → b.asked ≤ a.asked + k → ReadsUpTo a b k
ReadsUpTo-to p within = record { keeps = p.keeps; grows = p.grows; at_most = within; same_limit = p.same_limit; view = p.view }

-- a fault of the source after other reads
pub IsSourceFault-then : (a b c : SourceState) (fault : SourceFault) → KeepsSource a b → IsSourceFault b c fault → IsSourceFault a c fault
IsSourceFault-then a b c Device p q = omega arith
IsSourceFault-then a b c Ended p q = q

-- a budget refusal after other reads, with a bound on all
pub ExceedsBudget-then : {a b c : CountedState} {m : ℕ} (n k : ℕ) → b.asked + m ≤ a.asked + k → ReadsUpTo a b n → ExceedsBudget b c m → ExceedsBudget a c k
ExceedsBudget-then n k within p q = record { most = q.most; is_set = sym p.same_limit ∙ q.is_set; above = omega arith; late = q.late }

-- a looser bound
pub ExceedsBudget-more : {a b : CountedState} {n k : ℕ} → n ≤ k → ExceedsBudget a b n → ExceedsBudget a b k
ExceedsBudget-more within p = record { most = p.most; is_set = p.is_set; above = omega arith; late = p.late }
