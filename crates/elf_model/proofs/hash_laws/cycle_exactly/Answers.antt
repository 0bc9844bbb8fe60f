use Rattle.elf_model.proofs.LookupLaws.{cycle_exactly}
use Rattle.elf_model.proofs.hash_laws.cycle_exactly.Goals as goal

pub returns : goal.returns
returns c = cycle_exactly
