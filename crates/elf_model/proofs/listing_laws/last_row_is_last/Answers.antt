use Rattle.elf_model.proofs.ListingLemmas.{last_row}
use Rattle.elf_model.proofs.listing_laws.last_row_is_last.Goals as goal

pub returns : goal.returns
returns c = last_row
