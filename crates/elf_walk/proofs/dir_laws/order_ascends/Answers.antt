use Rattle.std.proofs.Common.{[]}
use Rattle.elf_walk.proofs.AscendLaws as law
use Rattle.elf_walk.proofs.dir_laws.order_ascends.Goals as goal

pub returns : goal.returns
returns c = λ names. law.order_ascends names [] tt
