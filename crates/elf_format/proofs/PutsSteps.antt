-- One text written after another.
use Rattle.std.proofs.Common.{ℕ, List, ◌++◌, Result, Ok, Err}
use Rattle.elf_source.specs.Prelude.{OutPuts, OutState, SinkTakes}
use Rattle.elf_source.specs.declared.faults.OutFault.{OutFault}
use Rattle.elf_source.proofs.PutsLaws.{SinkTakes-then, SinkTakesPrefix-then}

-- the second was written, or a prefix of it
pub puts_then : {X : Type 0} {a b : OutState} (c : OutState) (xs ys : List ℕ) (result : Result X OutFault) → SinkTakes a b xs → OutPuts b c result ys → OutPuts a c result (xs ++ ys)
puts_then c xs ys (Ok x) p q = (SinkTakes-then xs ys p q.0, q.1)
puts_then c xs ys (Err fault) p q = (SinkTakesPrefix-then xs ys p q.0, q.1)
