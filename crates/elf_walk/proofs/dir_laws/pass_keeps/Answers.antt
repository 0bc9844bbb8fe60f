use Rattle.elf_walk.proofs.PassLaws as law
use Rattle.elf_walk.proofs.dir_laws.pass_keeps.Goals as goal

pub returns : goal.returns
returns c = λ names kept front. law.pass_keeps names kept front
