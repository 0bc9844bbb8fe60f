use Rattle.elf_model.proofs.WalkLaws.{repeat_never_ends}
use Rattle.elf_model.proofs.hash_laws.repeat_never_ends.Goals as goal

pub returns : goal.returns
returns c = repeat_never_ends
