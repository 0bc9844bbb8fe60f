use Rattle.elf_model.proofs.ImageWhole.{image_is_whole}
use Rattle.elf_model.proofs.image_laws.image_is_whole.Goals as goal

pub returns : goal.returns
returns c = image_is_whole
