-- The digit that is appended is the first of those that are left.
use Rattle.std.proofs.Common.{arith, sym, ◌∙◌}
use Rattle.elf_format.proofs.Digits.{digit_put, none_left}
use Rattle.elf_format.proofs.columns.put_digits.Goals as goal

pub loop-left-preserved : goal.loop-left-preserved
loop-left-preserved c = record {
  digits =
      digit_put c.loop-left.line.items c.push.new.self.items c.loop-left.left c.args.number c.digit_of.result c.loop-left-test.true c.digit_of.ensures c.push.ensures.items
      ∙ c.loop-left.invariant.digits;
  length = omega (arith, c.push.ensures.len);
  few = omega arith;
}

pub returns-clause-items : goal.returns-clause-items
returns-clause-items c =
    sym (none_left c.loop-left.line.items c.loop-left.left c.args.number c.loop-left-test.false) ∙ c.loop-left.invariant.digits
