-- The sum of reads on credit, one after another.
use Rattle.std.proofs.Common.{ℕ, ◌+◌, ◌≤◌, arith}
use Rattle.elf_source.specs.Source.{CountedState, ReadsUpTo}
use Rattle.elf_source.proofs.ReadsLaws.{ReadsUpTo-none, ReadsUpTo-then, ReadsUpTo-to}
use Rattle.elf_note.specs.Ahead.{ReadsOnCredit}

-- nothing was read, and no credit was added that is not counted
pub SpendsAtMost-none : (c : CountedState) (before after n : ℕ) → after ≤ before + n → ReadsOnCredit c c before after n
SpendsAtMost-none c before after n within = record { reads = ReadsUpTo-none c (before + n); account = omega arith }

-- reads that take nothing from the credit
pub SpendsAtMost-reads : {a b : CountedState} {n : ℕ} (x : ℕ) → ReadsUpTo a b n → ReadsOnCredit a b x x n
SpendsAtMost-reads x p = record { reads = ReadsUpTo-to p (omega (arith, p.at_most)); account = omega (arith, p.at_most) }

-- reads, and then others
pub SpendsAtMost-then : {a b c : CountedState} {x y z n m : ℕ} → ReadsOnCredit a b x y n → ReadsOnCredit b c y z m → ReadsOnCredit a c x z (n + m)
SpendsAtMost-then p q = record {
  reads = ReadsUpTo-to (ReadsUpTo-then p.reads q.reads) (let s = p.account in let t = q.account in omega arith);
  account = let s = p.account in let t = q.account in omega arith;
}

-- the same, with a bound on all
pub SpendsAtMost-to : {a b : CountedState} {x y n k : ℕ} → ReadsOnCredit a b x y n → b.asked + y ≤ a.asked + (x + k) → ReadsOnCredit a b x y k
SpendsAtMost-to p within = record { reads = ReadsUpTo-to p.reads (omega arith); account = within }
