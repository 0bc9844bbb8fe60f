use Rattle.elf_model.proofs.ListingLemmas.{other_bits}
use Rattle.elf_model.proofs.listing_laws.other_bits_mean_nothing.Goals as goal

pub returns : goal.returns
returns c = other_bits
