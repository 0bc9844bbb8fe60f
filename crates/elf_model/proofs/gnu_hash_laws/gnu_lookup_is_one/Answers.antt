use Rattle.elf_model.proofs.GnuHashLaws.{gnu_lookup_is_one}
use Rattle.elf_model.proofs.gnu_hash_laws.gnu_lookup_is_one.Goals as goal

pub returns : goal.returns
returns c = gnu_lookup_is_one
