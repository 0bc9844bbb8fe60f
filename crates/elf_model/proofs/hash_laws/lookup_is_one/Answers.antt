use Rattle.elf_model.proofs.LookupLaws.{lookup_is_one}
use Rattle.elf_model.proofs.hash_laws.lookup_is_one.Goals as goal

pub returns : goal.returns
returns c = lookup_is_one
