-- An item that does not follow the one before it cannot be borrowed.
use Rattle.elf_capi.proofs.LackLaws.{name_follows}
use Rattle.elf_capi.proofs.lent_layout.names_of.Goals as goal

pub returns-in-Err : goal.returns-in-Err
returns-in-Err c = λ lent. c.in-Err.ensures.falls (name_follows c.args.items.now c.in-Err.field-0 c.in-Err.ensures.refused.0 lent)
