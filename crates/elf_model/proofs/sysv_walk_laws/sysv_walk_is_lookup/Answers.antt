use Rattle.elf_model.proofs.SysvWalkLaws.{sysv_walk_is_lookup}
use Rattle.elf_model.proofs.sysv_walk_laws.sysv_walk_is_lookup.Goals as goal

pub returns : goal.returns
returns c = sysv_walk_is_lookup
