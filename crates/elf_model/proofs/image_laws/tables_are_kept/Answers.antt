use Rattle.elf_model.proofs.ImageLaws.{tables_are_kept}
use Rattle.elf_model.proofs.image_laws.tables_are_kept.Goals as goal

pub returns : goal.returns
returns c = tables_are_kept
