-- A byte, and then those that are left.
use Rattle.std.proofs.Common.{arith}
use Rattle.elf_format.proofs.ContentLaws.{escaped_next, escaped_none}
use Rattle.elf_format.proofs.note_contents.escaped.Goals as goal

pub loop-byte-preserved : goal.loop-byte-preserved
loop-byte-preserved c = record {
  items = escaped_next c.args.text.now c.loop-byte.byte-index _ _ _ c.loop-byte-test.true c.put_name_byte.ensures.items c.loop-byte.invariant.items;
  room = omega (arith, c.put_name_byte.ensures.len, c.loop-byte.invariant.room);
}

pub returns-clause-items : goal.returns-clause-items
returns-clause-items c = escaped_none c.args.text.now c.loop-byte.byte-index _ _ c.loop-byte-test.false c.loop-byte.invariant.items
