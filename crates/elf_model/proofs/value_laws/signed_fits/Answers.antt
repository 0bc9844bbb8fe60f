use Rattle.elf_model.proofs.SignLaws.{signed_fits}
use Rattle.elf_model.proofs.value_laws.signed_fits.Goals as goal

pub returns : goal.returns
returns c = signed_fits
