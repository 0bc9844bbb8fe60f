use Rattle.elf_model.proofs.LookupLaws.{lookup_is_bounded}
use Rattle.elf_model.proofs.hash_laws.lookup_is_bounded.Goals as goal

pub returns : goal.returns
returns c = lookup_is_bounded
