use Rattle.elf_model.proofs.ListingLemmas.{rows_split}
use Rattle.elf_model.proofs.listing_laws.rows_split.Goals as goal

pub returns : goal.returns
returns c = rows_split
