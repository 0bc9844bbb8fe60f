use Rattle.elf_model.proofs.PatchLaws.{final_below}
use Rattle.elf_model.proofs.apply_laws.final_below.Goals as goal

pub returns : goal.returns
returns c = final_below
