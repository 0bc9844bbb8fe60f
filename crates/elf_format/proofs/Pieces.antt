-- Laws of a text that is written in pieces.
use Rattle.std.proofs.Common.{ℕ, List, ◌++◌, Result, Ok, Err, sym, ap, ◌∙◌, append_assoc}
use Rattle.elf_source.specs.Prelude.{OutPuts, OutState, SinkTakes, SinkTakesPrefix}
use Rattle.elf_source.specs.declared.faults.OutFault.{OutFault}
use Rattle.elf_source.proofs.PutsLaws.{SinkTakes-then, SinkTakesPrefix-then}
use Rattle.elf_format.specs.Pieces.{TakesBefore, PutsBefore}

-- more of the text follows the rest
pub TakesBefore-more : {a b : OutState} {text rest : List ℕ} (more : List ℕ)
    → TakesBefore a b text rest → TakesBefore a b (text ++ more) (rest ++ more)
TakesBefore-more {a} {b} {text} {rest} more p = record {
  front = p.front;
  split = ap (λ xs. xs ++ more) p.split ∙ append_assoc p.front rest more;
  takes = p.takes;
}

-- a part of the rest was written
pub TakesBefore-then : {a b c : OutState} {text rest less : List ℕ}
    → TakesBefore a b text rest → TakesBefore b c rest less → TakesBefore a c text less
TakesBefore-then {a} {b} {c} {text} {rest} {less} p q = record {
  front = p.front ++ q.front;
  split = p.split ∙ ap (λ xs. p.front ++ xs) q.split ∙ sym (append_assoc p.front q.front less);
  takes = SinkTakes-then p.front q.front p.takes q.takes;
}

-- the rest was written
pub TakesBefore-whole : {a b c : OutState} {text rest : List ℕ}
    → TakesBefore a b text rest → SinkTakes b c rest → SinkTakes a c text
TakesBefore-whole {a} {b} {c} {text} {rest} p q =
    rw p.split (SinkTakes-then p.front rest p.takes q)

-- a prefix of the rest was written
pub TakesBefore-front : {a b c : OutState} {text rest : List ℕ}
    → TakesBefore a b text rest → SinkTakesPrefix b c rest → SinkTakesPrefix a c text
TakesBefore-front {a} {b} {c} {text} {rest} p q =
    rw p.split (SinkTakesPrefix-then p.front rest p.takes q)

-- the rest was put
pub OutPuts-rest : {X : Type 0} {a b : OutState} {text rest : List ℕ} (c : OutState)
    → (result : Result X OutFault) → TakesBefore a b text rest
    → OutPuts b c result rest → OutPuts a c result text
OutPuts-rest c (Ok x) p q = (TakesBefore-whole p q.0, q.1)
OutPuts-rest c (Err fault) p q = (TakesBefore-front p q.0, q.1)

-- the rest was written, except its own rest
pub PutsBefore-then : {X : Type 0} {a b : OutState} {text rest : List ℕ} (c : OutState) (less : List ℕ)
    → (result : Result X OutFault) → TakesBefore a b text rest
    → PutsBefore b c result rest less → PutsBefore a c result text less
PutsBefore-then c less (Ok x) p q = TakesBefore-then p q
PutsBefore-then c less (Err fault) p q = (TakesBefore-front p q.0, q.1)
