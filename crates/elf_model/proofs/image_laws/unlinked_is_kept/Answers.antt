use Rattle.elf_model.proofs.ImageLaws.{unlinked_is_kept}
use Rattle.elf_model.proofs.image_laws.unlinked_is_kept.Goals as goal

pub returns : goal.returns
returns c = unlinked_is_kept
