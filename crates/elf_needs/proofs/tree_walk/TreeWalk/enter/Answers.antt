-- The walk goes on under the next object.
use Rattle.std.proofs.Common.{arith}
use Rattle.elf_needs.proofs.TreeLaws.{chain_enters, enters}
use Rattle.elf_needs.proofs.tree_walk.TreeWalk.enter.Goals as goal

pub returns-clause-walks : goal.returns-clause-walks
returns-clause-walks c =
    let walk = c.args.self.now in
    let walks = c.requires.walks in
    let next = c.requires.next in
    record {
      low = omega (arith, walks.low, next.low);
      chain = chain_enters walk.known.now walk.parent walk.depth walk.from c.args.index next walks.low walks.chain;
    }

pub returns-clause-steps : goal.returns-clause-steps
returns-clause-steps c =
    let walk = c.args.self.now in enters walk.known.now walk.parent walk.depth walk.from c.args.index c.requires.next
