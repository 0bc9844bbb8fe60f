-- What was read was put.
use Rattle.elf_walk.proofs.GatherLaws.{GatheredSoFar}
use Rattle.elf_walk.proofs.dir_walk.gather_from.Given as goal

abbrev pub invariant-loop-turn : goal.invariant-loop-turn
invariant-loop-turn g l = GatheredSoFar (g.D.Read.remaining l.fn.directory) (g.D.Read.remaining l.directory) l.unnamed l.fn.batch l.batch
