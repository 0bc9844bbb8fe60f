use Rattle.std.proofs.Common.{rules}
use Rattle.elf_record.proofs.RecordLaws.{dyn_in_file}
use Rattle.elf_record.proofs.dyn_entry.Dyn.decode.Goals as goal

pub returns-clause-is_at : goal.returns-clause-is_at
returns-clause-is_at c = λ file at is. dyn_in_file file at _ _ is (search rules)
