use Rattle.elf_model.proofs.ImageHolders.{holder_is_one}
use Rattle.elf_model.proofs.image_laws.holder_is_one.Goals as goal

pub returns : goal.returns
returns c = holder_is_one
