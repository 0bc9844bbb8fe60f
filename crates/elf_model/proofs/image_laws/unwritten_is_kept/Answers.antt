use Rattle.elf_model.proofs.ImageLaws.{unwritten_is_kept}
use Rattle.elf_model.proofs.image_laws.unwritten_is_kept.Goals as goal

pub returns : goal.returns
returns c = unwritten_is_kept
