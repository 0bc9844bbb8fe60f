-- An item that does not follow the one before it cannot be borrowed.
use Rattle.std.proofs.Common.{nat_cmp}
use Rattle.elf_layout.specs.Lent.{borrowed_index}
use Rattle.elf_capi.proofs.LackLaws.{each_follows}
use Rattle.elf_capi.proofs.lent_layout.sections_of.Goals as goal

pub returns-in-Err : goal.returns-in-Err
returns-in-Err c = λ lent. c.in-Err.ensures.falls (each_follows nat_cmp borrowed_index c.args.items.now c.in-Err.field-0 c.in-Err.ensures.refused.0 lent)
