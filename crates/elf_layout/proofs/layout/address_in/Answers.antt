use Rattle.std.proofs.Common.{refl, sym, ◌∙◌, arith, get_or}
use Rattle.elf_layout.proofs.LayoutSteps.{address_hit, address_miss, address_none}
use Rattle.elf_layout.proofs.layout.address_in.Goals as goal

pub returns-then-items-i : goal.returns-then-items-i
returns-then-items-i c = sym (address_hit c.args.items.now c.loop-i.i c.args.section (0, 0) (get_or c.args.items.now c.loop-i.i (0, 0)) c.loop-i-test.true refl c.if-items-i.true) ∙ c.loop-i.invariant.left

pub loop-i-preserved : goal.loop-i-preserved
loop-i-preserved c = record {
  within = omega arith;
  left = sym (address_miss c.args.items.now c.loop-i.i c.args.section (0, 0) (get_or c.args.items.now c.loop-i.i (0, 0)) c.loop-i-test.true refl c.if-items-i.false) ∙ c.loop-i.invariant.left;
}

pub returns : goal.returns
returns c = sym (address_none c.args.items.now c.loop-i.i c.args.section c.loop-i-test.false) ∙ c.loop-i.invariant.left
