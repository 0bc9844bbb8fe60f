use Rattle.elf_model.proofs.NoteLaws.{fits_or_is_cut}
use Rattle.elf_model.proofs.notes.fits_or_is_cut.Goals as goal

pub returns : goal.returns
returns c = fits_or_is_cut
