use Rattle.elf_model.proofs.SysvWalkLaws.{sysv_found_answers}
use Rattle.elf_model.proofs.sysv_walk_laws.sysv_found_answers.Goals as goal

pub returns : goal.returns
returns c = sysv_found_answers
