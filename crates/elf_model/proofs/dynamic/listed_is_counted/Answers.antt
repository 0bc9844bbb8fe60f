use Rattle.elf_model.proofs.DynamicLaws.{listed_is_counted}
use Rattle.elf_model.proofs.dynamic.listed_is_counted.Goals as goal

pub returns : goal.returns
returns c = listed_is_counted
