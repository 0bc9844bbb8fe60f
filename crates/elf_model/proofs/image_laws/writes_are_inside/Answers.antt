use Rattle.elf_model.proofs.ImageLaws.{writes_are_inside}
use Rattle.elf_model.proofs.image_laws.writes_are_inside.Goals as goal

pub returns : goal.returns
returns c = writes_are_inside
