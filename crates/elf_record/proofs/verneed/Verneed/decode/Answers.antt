use Rattle.elf_record.proofs.RecordLaws.{verneed_in_file}
use Rattle.elf_record.proofs.verneed.Verneed.decode.Goals as goal

pub returns-clause-is_at : goal.returns-clause-is_at
returns-clause-is_at c = λ file at is. verneed_in_file file at _ _ is (assumption c)
