use Rattle.elf_model.proofs.ValueLaws.{addend_is_its_bits}
use Rattle.elf_model.proofs.value_laws.addend_is_its_bits.Goals as goal

pub returns : goal.returns
returns c = addend_is_its_bits
