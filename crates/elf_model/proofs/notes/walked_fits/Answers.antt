use Rattle.elf_model.proofs.NoteLaws.{walked_fits}
use Rattle.elf_model.proofs.notes.walked_fits.Goals as goal

pub returns : goal.returns
returns c = walked_fits
