use Rattle.elf_model.proofs.SysvWalkLaws.{sysv_walk_answers}
use Rattle.elf_model.proofs.sysv_walk_laws.sysv_walk_answers.Goals as goal

pub returns : goal.returns
returns c = sysv_walk_answers
