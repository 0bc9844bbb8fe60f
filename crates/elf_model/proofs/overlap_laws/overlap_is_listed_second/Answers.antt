use Rattle.elf_model.proofs.OverlapLemmas.{overlap_second}
use Rattle.elf_model.proofs.overlap_laws.overlap_is_listed_second.Goals as goal

pub returns : goal.returns
returns c = overlap_second
