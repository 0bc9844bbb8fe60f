use Rattle.elf_model.proofs.LookupLaws.{compared_within_chains}
use Rattle.elf_model.proofs.hash_laws.compared_within_chains.Goals as goal

pub returns : goal.returns
returns c = compared_within_chains
