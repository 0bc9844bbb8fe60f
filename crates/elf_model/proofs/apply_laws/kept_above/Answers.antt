use Rattle.elf_model.proofs.PatchLaws.{kept_above}
use Rattle.elf_model.proofs.apply_laws.kept_above.Goals as goal

pub returns : goal.returns
returns c = kept_above
