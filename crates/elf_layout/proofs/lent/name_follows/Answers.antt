use Rattle.std.proofs.Common.{arith}
use Rattle.elf_layout.proofs.NameSteps.{follows_said, follows_no_name}
use Rattle.elf_layout.proofs.lent.name_follows.Goals as goal

pub returns-else-i-eq0 : goal.returns-else-i-eq0
returns-else-i-eq0 c = follows_said c.args.items.now c.args.i c.name_at-name.result.now c.requires c.name_at-name.ensures c.if-is_name.ensures (omega (arith, c.if-i-eq0.false)) c.name_at.result.now c.name_at.ensures c.is_below.result c.is_below.ensures

pub returns-else-is_name : goal.returns-else-is_name
returns-else-is_name c = rw c.if-is_name.false (follows_no_name c.args.items.now c.args.i c.name_at-name.result.now c.requires c.name_at-name.ensures c.if-is_name.ensures)
