use Rattle.elf_model.proofs.PatchLaws.{length_kept}
use Rattle.elf_model.proofs.apply_laws.length_kept.Goals as goal

pub returns : goal.returns
returns c = length_kept
