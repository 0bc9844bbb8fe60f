use Rattle.elf_model.proofs.ChangeLaws.{length-patch_of}
use Rattle.elf_model.proofs.value_laws.patch_has_width.Goals as goal

pub returns : goal.returns
returns c = length-patch_of
