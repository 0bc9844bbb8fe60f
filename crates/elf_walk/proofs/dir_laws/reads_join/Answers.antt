use Rattle.elf_walk.proofs.GatherLaws as laws
use Rattle.elf_walk.proofs.dir_laws.reads_join.Goals as goal

pub returns : goal.returns
returns c = laws.reads_join
