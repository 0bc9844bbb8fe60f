use Rattle.elf_model.proofs.GnuHashLaws.{gnu_found_answers}
use Rattle.elf_model.proofs.gnu_hash_laws.gnu_found_answers.Goals as goal

pub returns : goal.returns
returns c = gnu_found_answers
