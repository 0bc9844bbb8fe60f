use Rattle.elf_model.proofs.ListingLemmas.{header_fault}
use Rattle.elf_model.proofs.listing_laws.header_fault_is_listed_alone.Goals as goal

pub returns : goal.returns
returns c = header_fault
