-- Names may be selected by if each is allowed at its index.
use Rattle.std.proofs.Common.{arith}
use Rattle.elf_capi.proofs.NameLaws.{all_stand, each_stands, stand_more}
use Rattle.elf_capi.proofs.name_list.may_choose.Goals as goal

pub loop-i-preserved : goal.loop-i-preserved
loop-i-preserved c = record {
  within = omega (arith, c.loop-i-test.true);
  stand = stand_more c.args.versions c.args.names.now c.loop-i.i c.loop-i.invariant.stand c.if-not-may_stand.ensures;
}

pub returns-then-not-may_stand : goal.returns-then-not-may_stand
returns-then-not-may_stand c = λ may. c.if-not-may_stand.ensures (each_stands c.args.versions c.args.names.now c.loop-i.i c.loop-i-test.true may)

pub returns : goal.returns
returns c = all_stand c.args.versions c.args.names.now c.loop-i.i c.loop-i.invariant.stand (omega (arith, c.loop-i-test.false))
