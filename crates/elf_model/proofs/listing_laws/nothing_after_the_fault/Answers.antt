use Rattle.elf_model.proofs.ListingLemmas.{nothing_after}
use Rattle.elf_model.proofs.listing_laws.nothing_after_the_fault.Goals as goal

pub returns : goal.returns
returns c = nothing_after
