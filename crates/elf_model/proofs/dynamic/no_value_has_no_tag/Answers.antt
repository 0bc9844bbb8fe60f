use Rattle.elf_model.proofs.DynamicLaws.{no_value_has_no_tag}
use Rattle.elf_model.proofs.dynamic.no_value_has_no_tag.Goals as goal

pub returns : goal.returns
returns c = no_value_has_no_tag
