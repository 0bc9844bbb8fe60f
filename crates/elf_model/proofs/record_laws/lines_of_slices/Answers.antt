use Rattle.elf_model.proofs.RecordLemmas.{lines_of_slices}
use Rattle.elf_model.proofs.record_laws.lines_of_slices.Goals as goal

pub returns : goal.returns
returns c = lines_of_slices
