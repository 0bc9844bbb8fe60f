use Rattle.elf_model.proofs.DynamicLaws.{value_is_first}
use Rattle.elf_model.proofs.dynamic.value_is_first.Goals as goal

pub returns : goal.returns
returns c = value_is_first
