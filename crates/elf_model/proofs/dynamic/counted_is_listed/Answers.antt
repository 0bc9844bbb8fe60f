use Rattle.elf_model.proofs.DynamicLaws.{counted_is_listed}
use Rattle.elf_model.proofs.dynamic.counted_is_listed.Goals as goal

pub returns : goal.returns
returns c = counted_is_listed
