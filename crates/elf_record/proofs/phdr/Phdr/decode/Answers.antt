use Rattle.elf_record.proofs.RecordLaws.{phdr_in_file}
use Rattle.elf_record.proofs.phdr.Phdr.decode.Goals as goal

pub returns-clause-is_at : goal.returns-clause-is_at
returns-clause-is_at c = λ file at is. phdr_in_file file at _ _ is (assumption c)
