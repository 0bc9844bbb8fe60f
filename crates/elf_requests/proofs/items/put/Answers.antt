use Rattle.std.proofs.Common.{refl}
use Rattle.elf_requests.proofs.items.put.Goals as goal

pub returns-in_default-clause-refused : goal.returns-in_default-clause-refused
returns-in_default-clause-refused c = c.in_default.ensures.unspelled refl
