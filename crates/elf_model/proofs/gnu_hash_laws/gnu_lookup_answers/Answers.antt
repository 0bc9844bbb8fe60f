use Rattle.elf_model.proofs.GnuHashLaws.{gnu_lookup_answers}
use Rattle.elf_model.proofs.gnu_hash_laws.gnu_lookup_answers.Goals as goal

pub returns : goal.returns
returns c = gnu_lookup_answers
