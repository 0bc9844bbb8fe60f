use Rattle.elf_model.proofs.ImageLaws.{windows_are_parts}
use Rattle.elf_model.proofs.image_laws.windows_are_parts.Goals as goal

pub returns : goal.returns
returns c = windows_are_parts
