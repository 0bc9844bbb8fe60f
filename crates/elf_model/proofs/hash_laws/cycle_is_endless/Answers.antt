use Rattle.elf_model.proofs.LookupLaws.{cycle_is_endless}
use Rattle.elf_model.proofs.hash_laws.cycle_is_endless.Goals as goal

pub returns : goal.returns
returns c = cycle_is_endless
