use Rattle.elf_model.proofs.ListingLemmas.{load_fault}
use Rattle.elf_model.proofs.listing_laws.load_fault_is_listed_second.Goals as goal

pub returns : goal.returns
returns c = load_fault
