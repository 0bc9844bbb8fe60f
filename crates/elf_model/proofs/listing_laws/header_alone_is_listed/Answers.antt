use Rattle.elf_model.proofs.ListingLemmas.{header_alone}
use Rattle.elf_model.proofs.listing_laws.header_alone_is_listed.Goals as goal

pub returns : goal.returns
returns c = header_alone
