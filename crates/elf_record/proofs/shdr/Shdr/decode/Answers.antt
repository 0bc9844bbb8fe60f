use Rattle.elf_record.proofs.RecordLaws.{shdr_in_file}
use Rattle.elf_record.proofs.shdr.Shdr.decode.Goals as goal

pub returns-clause-is_at : goal.returns-clause-is_at
returns-clause-is_at c = λ file at is. shdr_in_file file at _ _ is (assumption c)
