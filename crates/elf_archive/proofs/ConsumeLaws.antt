-- What the calls that list members read of the source, one after another.
use Rattle.std.proofs.Common.{ℕ, ◌+◌, ◌≤◌, Result, Ok, Err, Option, Some, List, sym, ap, ◌∙◌, arith}
use Rattle.elf_source.specs.Prelude.{CountedState, LiesWithin, OutState, ReadsUpTo}
use Rattle.elf_source.proofs.ReadsLaws.{ReadsUpTo-none, ReadsUpTo-then, ReadsUpTo-to, IsSourceFault-then, ExceedsBudget-then, ExceedsBudget-more}
use Rattle.elf_table.specs.Prelude.{IsReadFault, stop_of}
use Rattle.elf_table.specs.declared.fault.Fault.{Fault}
use Rattle.elf_table.specs.declared.run_fault.RunFault.TheVariants.{Out}
use Rattle.elf_table.specs.declared.run_fault.RunFault.{RunFault}
use Rattle.elf_table.specs.declared.fault.Fault.TheVariants.{Refused as Refuses, Source as Unread}
use Rattle.elf_table.specs.declared.run_fault.RunFault.TheVariants.{Refused, Source}
use Rattle.elf_archive.specs.Listed.{ReadsAtMostIn, StopTells, IsAll}

-- reads after others, in a bound on all
pub Explains-then : (a b c : CountedState) (out : OutState) (stop : RunFault) (n m k : ℕ) → n + m ≤ k → ReadsUpTo a b n → StopTells b c out m stop → StopTells a c out k stop
Explains-then a b c out (Refused refusal) n m k within p q = λ is.
    let over = q is in (rw (sym p.keeps.same_size) over.0, ExceedsBudget-then n k (omega (arith, p.at_most)) p over.1)
Explains-then a b c out (Source fault at) n m k within p q = IsSourceFault-then a.seen b.seen c.seen fault p.keeps q
Explains-then a b c out (Out fault) n m k within p q = q

pub ReadsAtMostIn-then : {X : Type 0} (a b c : CountedState) (out : OutState) (result : Result X RunFault) (n m k : ℕ) → n + m ≤ k → ReadsUpTo a b n → ReadsAtMostIn b c out result m → ReadsAtMostIn a c out result k
ReadsAtMostIn-then a b c out (Ok x) n m k within p q = (ReadsUpTo-to (ReadsUpTo-then p q.0) (omega (arith, p.at_most, q.0.at_most)), tt)
ReadsAtMostIn-then a b c out (Err stop) n m k within p q = (ReadsUpTo-to (ReadsUpTo-then p q.0) (omega (arith, p.at_most, q.0.at_most)), Explains-then a b c out stop n m k within p q.1)

pub ReadsAtMostIn-to : {X : Type 0} (a b : CountedState) (out : OutState) (result : Result X RunFault) (n k : ℕ) → n ≤ k → ReadsAtMostIn a b out result n → ReadsAtMostIn a b out result k
ReadsAtMostIn-to a b out result n k within p = ReadsAtMostIn-then a a b out result 0 n k (omega (arith, within)) (ReadsUpTo-none a 0) p

-- a read fault, in a bound
pub ReadsAtMostIn-fault : (a b : CountedState) (out : OutState) (fault : Fault) (n k : ℕ) → n ≤ k → ReadsUpTo a b n → IsReadFault a b n fault → ReadsAtMostIn {X = Unit {0}} a b out (Err (stop_of fault)) k
ReadsAtMostIn-fault a b out (Refuses refusal) n k within p q = (ReadsUpTo-to p (omega (arith, p.at_most)), λ is. let over = q is in (over.0, ExceedsBudget-more within over.1))
ReadsAtMostIn-fault a b out (Unread fault at) n k within p q = (ReadsUpTo-to p (omega (arith, p.at_most)), q.0)

-- a range of all bytes is one after reads
pub still_whole : (a b : CountedState) (n : ℕ) → IsAll a → ReadsUpTo a b n → IsAll b
still_whole a b n all p = record {
  whole = p.keeps.same_whole ∙ (all.whole ∙ (ap (λ (size : ℕ). Some (record { size = size; file = a.seen.file })) (sym p.keeps.same_size)
      ∙ ap (λ (file : Option (List ℕ)). Some (record { size = b.seen.size; file = file })) (sym p.keeps.same_file)));
  shows = p.view.hides ∙ all.shows;
}

-- some bytes within it lie within what it is a range of
pub lies_within : (c : CountedState) (start size : ℕ) → IsAll c → start + size ≤ c.seen.size → LiesWithin c.seen start size
lies_within c start size all lies = (record { size = c.seen.size; file = c.seen.file }, all.whole, lies)
