use Rattle.elf_model.proofs.ListingLemmas.{listings_append}
use Rattle.elf_model.proofs.listing_laws.listings_append.Goals as goal

pub returns : goal.returns
returns c = listings_append
