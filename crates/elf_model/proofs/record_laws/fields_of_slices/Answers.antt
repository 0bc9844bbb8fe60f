use Rattle.elf_model.proofs.RecordLemmas.{fields_of_slices}
use Rattle.elf_model.proofs.record_laws.fields_of_slices.Goals as goal

pub returns : goal.returns
returns c = fields_of_slices
