use Rattle.elf_record.proofs.EhdrLaws.{ehdr_in_file}
use Rattle.elf_record.proofs.ehdr.Ehdr.decode.Goals as goal

pub returns-clause-is_at : goal.returns-clause-is_at
returns-clause-is_at c = λ file at is. ehdr_in_file file at _ _ is (assumption c)
