-- An object is under the other, or not, or there is none.
use Rattle.std.proofs.Common.{sym, ◌∙◌, arith}
use Rattle.elf_needs.proofs.TreeLaws.{finds_here, finds_none, goes_past}
use Rattle.elf_needs.proofs.tree_walk.first_under.Goals as goal

pub returns-then-is_under : goal.returns-then-is_under
returns-then-is_under c =
    let i = c.loop-object.invariant in
    finds_here c.args.known.now c.args.parent c.args.from c.loop-object.at i.before c.in-Some.object i.low (sym c.object_at.ensures.is ∙ c.in-Some.is) (sym c.is_under.ensures ∙ c.if-is_under.true)

pub loop-object-preserved : goal.loop-object-preserved
loop-object-preserved c =
    let i = c.loop-object.invariant in
    record {
      low = omega (arith, i.low);
      before = goes_past c.args.known.now c.args.parent c.args.from c.loop-object.at i.before c.in-Some.object (sym c.object_at.ensures.is ∙ c.in-Some.is) (sym c.is_under.ensures ∙ c.if-is_under.false);
    }

pub returns : goal.returns
returns c =
    let i = c.loop-object.invariant in
    finds_none c.args.known.now c.args.parent c.args.from c.loop-object.at i.before (sym c.object_at.ensures.is ∙ c.in_default.is)
