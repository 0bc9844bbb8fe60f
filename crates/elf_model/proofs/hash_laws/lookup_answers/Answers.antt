use Rattle.elf_model.proofs.LookupLaws.{lookup_answers}
use Rattle.elf_model.proofs.hash_laws.lookup_answers.Goals as goal

pub returns : goal.returns
returns c = lookup_answers
