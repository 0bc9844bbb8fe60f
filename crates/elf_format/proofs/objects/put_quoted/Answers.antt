-- A byte that is appended is the first of those that were left.
use Rattle.std.proofs.Common.{arith}
use Rattle.elf_format.proofs.NameText.{string_put, string_end}
use Rattle.elf_model.specs.Fields.{quoted}
use Rattle.elf_format.proofs.objects.put_quoted.Goals as goal

pub loop-byte-preserved : goal.loop-byte-preserved
loop-byte-preserved c = record {
  items = string_put c.loop-byte.line.items _ _ c.args.text.now c.loop-byte.byte-index c.loop-byte-test.true c.loop-byte.invariant.items c.put_string_byte.ensures.items;
  length = omega (arith, c.put_string_byte.ensures.len);
}

pub returns-clause-items : goal.returns-clause-items
unfolding quoted
returns-clause-items c =
    string_end c.loop-byte.line.items _ c.args.line.now.items c.args.text.now c.loop-byte.byte-index c.loop-byte-test.false c.loop-byte.invariant.items c.push-2.ensures.items
