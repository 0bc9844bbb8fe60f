-- A walk begins before the program.
use Rattle.std.proofs.Common.{arith}
use Rattle.elf_needs.proofs.TreeLaws.{begins, chain_begins}
use Rattle.elf_needs.proofs.tree_walk.TreeWalk.new.Goals as goal

pub returns-clause-walks : goal.returns-clause-walks
returns-clause-walks c = record { low = omega arith; chain = chain_begins c.args.known.now }

pub returns-clause-places : goal.returns-clause-places
returns-clause-places c = begins c.args.known.now
