use Rattle.elf_model.proofs.ReadingLaws.{readings_are_records}
use Rattle.elf_model.proofs.loader_laws.readings_are_records.Goals as goal

pub returns : goal.returns
returns c = readings_are_records
