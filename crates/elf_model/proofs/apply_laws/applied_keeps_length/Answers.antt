use Rattle.elf_model.proofs.AppliedLaws.{applied_keeps_length}
use Rattle.elf_model.proofs.apply_laws.applied_keeps_length.Goals as goal

pub returns : goal.returns
returns c = applied_keeps_length
