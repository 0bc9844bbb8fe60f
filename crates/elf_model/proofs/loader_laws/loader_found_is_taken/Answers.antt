use Rattle.elf_model.proofs.LoaderLaws.{loader_found_is_taken}
use Rattle.elf_model.proofs.loader_laws.loader_found_is_taken.Goals as goal

pub returns : goal.returns
returns c = loader_found_is_taken
