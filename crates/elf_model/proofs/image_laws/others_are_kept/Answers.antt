use Rattle.elf_model.proofs.ImageLaws.{others_are_kept}
use Rattle.elf_model.proofs.image_laws.others_are_kept.Goals as goal

pub returns : goal.returns
returns c = others_are_kept
