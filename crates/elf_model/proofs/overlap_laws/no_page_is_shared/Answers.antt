use Rattle.elf_model.proofs.OverlapLemmas.{no_page_shared}
use Rattle.elf_model.proofs.overlap_laws.no_page_is_shared.Goals as goal

pub returns : goal.returns
returns c = no_page_shared
