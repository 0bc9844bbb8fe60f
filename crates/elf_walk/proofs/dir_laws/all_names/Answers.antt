use Rattle.elf_walk.proofs.AllNamesLaws as law
use Rattle.elf_walk.proofs.dir_laws.all_names.Goals as goal

pub returns : goal.returns
returns c = λ mosts names after few. law.all_names mosts names after few
