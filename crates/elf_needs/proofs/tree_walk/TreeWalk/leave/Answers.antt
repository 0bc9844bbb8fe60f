-- Nothing is left above the program; else the walk goes on under the object above.
use Rattle.std.proofs.Common.{sym, ◌∙◌, arith}
use Rattle.elf_needs.proofs.TreeLaws.{chain_leaves, leaves, leaves_none, leaves_nothing, needer_there, object_there}
use Rattle.elf_needs.proofs.tree_walk.TreeWalk.leave.Goals as goal

pub returns-then-self-eq0-clause-leaves : goal.returns-then-self-eq0-clause-leaves
returns-then-self-eq0-clause-leaves c =
    let walk = c.args.self.now in leaves_none walk.known.now walk.depth walk.parent _ (c.requires.last walk.depth) (omega (arith, c.if-self-eq0.true))

pub returns-in_default-clause-leaves : goal.returns-in_default-clause-leaves
returns-in_default-clause-leaves c =
    let walk = c.args.self.now in
    leaves_nothing walk.known.now walk.depth walk.parent _ (c.requires.last walk.depth) (omega (arith, c.if-self-eq0.false)) c.in_default.is c.requires.walks.chain

pub returns-in_default-object_at-clause-leaves : goal.returns-in_default-object_at-clause-leaves
returns-in_default-object_at-clause-leaves c =
    let walk = c.args.self.now in
    let less = (chain_leaves walk.known.now walk.depth walk.parent _ (c.requires.last walk.depth) c.in-Some.parent (omega (arith, c.if-self-eq0.false)) c.in-Some.is c.requires.walks.chain).0 in
    let past = object_there walk.known.now c.in-Some.parent (sym c.object_at.ensures.is ∙ c.in_default-object_at.is) in
    let no : ⊥ = omega (arith, less, past) in absurd no

pub returns-clause-walks : goal.returns-clause-walks
returns-clause-walks c =
    let walk = c.args.self.now in
    let chain = chain_leaves walk.known.now walk.depth walk.parent _ (c.requires.last walk.depth) c.in-Some.parent (omega (arith, c.if-self-eq0.false)) c.in-Some.is c.requires.walks.chain in
    let up = c.needer_index-self.ensures ∙ sym (needer_there walk.known.now c.in-Some.parent c.in-Some-object_at.known (sym c.object_at.ensures.is ∙ c.in-Some-object_at.is)) in
    record { low = omega (arith, chain.1); chain = rw up chain.2 }

pub returns-clause-leaves : goal.returns-clause-leaves
returns-clause-leaves c =
    let walk = c.args.self.now in
    let up = c.needer_index-self.ensures ∙ sym (needer_there walk.known.now c.in-Some.parent c.in-Some-object_at.known (sym c.object_at.ensures.is ∙ c.in-Some-object_at.is)) in
    (rw up (leaves walk.known.now walk.depth walk.parent _ (c.requires.last walk.depth) c.in-Some.parent (omega (arith, c.if-self-eq0.false)) c.in-Some.is), omega (arith, c.if-self-eq0.false))
