use Rattle.elf_model.proofs.WalkLaws.{long_walk_never_ends}
use Rattle.elf_model.proofs.hash_laws.long_walk_never_ends.Goals as goal

pub returns : goal.returns
returns c = long_walk_never_ends
