use Rattle.std.proofs.Common.{rules}
use Rattle.elf_record.proofs.RecordLaws.{rela_in_file}
use Rattle.elf_record.proofs.rela.Rela.decode.Goals as goal

pub returns-clause-is_at : goal.returns-clause-is_at
returns-clause-is_at c = λ file at is. rela_in_file file at _ _ is (search rules)
