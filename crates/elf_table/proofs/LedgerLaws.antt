-- The effect of one call after another.
use Rattle.std.proofs.Common.{◌≡◌, ℕ, ◌+◌, ◌<◌, ◌≤◌, List, length, Option, None, Some, IfSome, subst, ◌∙◌, arith}
use Rattle.elf_source.specs.Source.{CountedState, ReadsUpTo}
use Rattle.elf_source.proofs.ReadsLaws.{ReadsUpTo-none, ReadsUpTo-then, ReadsUpTo-to, IsSourceFault-then, ExceedsBudget-then}
use Rattle.elf_table.specs.Prelude.{CallDid, CallReads, IsOfCheck, IsReadFault}
use Rattle.elf_table.specs.declared.fault.Fault.{Fault}
use Rattle.elf_table.specs.declared.fault.Fault.TheVariants.{Refused, Source}

-- nothing was read
pub CallReads-none : (c : CountedState) → CallReads c c None 0
CallReads-none c = record { reads = ReadsUpTo-none c 0; says = tt }

says_then : {a b : CountedState} {n : ℕ} (c : CountedState) (m k : ℕ) (stop : Option Fault) → n + m ≤ k → ReadsUpTo a b n → IfSome stop (IsReadFault b c m) → IfSome stop (IsReadFault a c k)
says_then c m k None within p q = tt
says_then {n = n} c m k (Some (Refused refusal)) within p q =
    λ budget. let r = q budget in (subst (λ (size : ℕ). refusal.at < size) p.keeps.same_size r.0, ExceedsBudget-then n k (omega arith) p r.1, r.2)
says_then {a} {b} c m k (Some (Source fault at)) within p q = (IsSourceFault-then a.seen b.seen c.seen fault p.keeps q.0, q.1)

-- a call after another
pub CallReads-then : {a b c : CountedState} {stop : Option Fault} {n m : ℕ} (k : ℕ) → n + m ≤ k → CallReads a b None n → CallReads b c stop m → CallReads a c stop k
CallReads-then {c = c} {stop = stop} {m = m} k within p q = record {
  reads = ReadsUpTo-to (ReadsUpTo-then p.reads q.reads) (omega (arith, p.reads.at_most, q.reads.at_most));
  says = says_then c m k stop within p.reads q.says;
}

-- a looser bound
pub CallReads-more : {a b : CountedState} {stop : Option Fault} {n : ℕ} (k : ℕ) → n ≤ k → CallReads a b stop n → CallReads a b stop k
CallReads-more {a} k within p = CallReads-then k (omega arith) (CallReads-none a) p

-- THE LAW: a call after another, and what both imply
pub CallDid-then :
    {a b c : CountedState} {stop : Option Fault} {n m : ℕ} {P Q : List ℕ → Type 0} → CallDid a b None n P → CallDid b c stop m Q
    → CallDid a c stop (n + m) (λ file. P file × Q file)
CallDid-then {n = n} {m = m} p q = record {
  costs = CallReads-then (n + m) (omega arith) p.costs q.costs;
  known = λ file held. (p.known file held, q.known file (p.costs.reads.keeps.same_file ∙ held));
}

-- nothing was read
pub CallDid-none : (c : CountedState) → CallDid c c None 0 (λ file. Unit {0})
CallDid-none c = record { costs = CallReads-none c; known = λ file held. tt }

-- a check refused after it
check_says : (a b : CountedState) (n : ℕ) (fault : Fault) → IsOfCheck fault → IsReadFault a b n fault
check_says a b n (Refused refusal) check = λ budget. absurd (check budget)
check_says a b n (Source fault at) check = absurd check

pub CallDid-stop : {a b : CountedState} {n : ℕ} {P : List ℕ → Type 0} (fault : Fault) → IsOfCheck fault → CallDid a b None n P → CallDid a b (Some fault) n P
CallDid-stop fault check p = record { costs = record { reads = p.costs.reads; says = check_says _ _ _ fault check }; known = p.known }

-- the effect in other words: with a looser bound, and what follows for a known file, also that the
-- cost is at most another bound
pub CallDid-as :
    {a b : CountedState} {stop : Option Fault} {n : ℕ} {P R : List ℕ → Type 0} (k : ℕ) → n ≤ k → CallDid a b stop n P
    → ((file : List ℕ) → P file → ((m : ℕ) → n ≤ m → CallReads a b stop m) → R file) → CallDid a b stop k R
CallDid-as k within p tells =
    record { costs = CallReads-more k within p.costs; known = λ file held. tells file (p.known file held) (λ m low. CallReads-more m low p.costs) }

-- a call that implies the same clause by clause
pub CallDid-of :
    {a b : CountedState} {stop : Option Fault} {n : ℕ} {P : List ℕ → Type 0} → ReadsUpTo a b n → IfSome stop (IsReadFault a b n)
    → ((file : List ℕ) → a.seen.file ≡ Some file → P file) → CallDid a b stop n P
CallDid-of reads says known = record { costs = record { reads = reads; says = says }; known = known }

-- and the file is as long as the source
pub CallDid-sized :
    {a b : CountedState} {stop : Option Fault} {n : ℕ} {P : List ℕ → Type 0} → CallDid a b stop n P
    → CallDid a b stop n (λ file. (length file ≡ a.seen.size) × P file)
CallDid-sized {a} p = record { costs = p.costs; known = λ file held. (a.seen.sized file held, p.known file held) }
