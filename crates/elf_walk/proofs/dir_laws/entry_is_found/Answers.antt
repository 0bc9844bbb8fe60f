use Rattle.elf_walk.proofs.EntryLaws as laws
use Rattle.elf_walk.proofs.dir_laws.entry_is_found.Goals as goal

pub returns : goal.returns
returns c = laws.entry_is_found
