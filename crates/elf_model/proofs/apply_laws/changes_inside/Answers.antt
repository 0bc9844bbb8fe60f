use Rattle.elf_model.proofs.ChangeLaws.{changes_inside}
use Rattle.elf_model.proofs.apply_laws.changes_inside.Goals as goal

pub returns : goal.returns
returns c = changes_inside
