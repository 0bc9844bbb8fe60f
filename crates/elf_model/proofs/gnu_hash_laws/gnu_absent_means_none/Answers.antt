use Rattle.elf_model.proofs.GnuHashLaws.{gnu_absent_means_none}
use Rattle.elf_model.proofs.gnu_hash_laws.gnu_absent_means_none.Goals as goal

pub returns : goal.returns
returns c = gnu_absent_means_none
