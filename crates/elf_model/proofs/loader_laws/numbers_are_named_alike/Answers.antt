use Rattle.elf_model.proofs.OneRule.{numbers_are_named_alike}
use Rattle.elf_model.proofs.loader_laws.numbers_are_named_alike.Goals as goal

pub returns : goal.returns
returns c = numbers_are_named_alike
