use Rattle.elf_record.proofs.RecordLaws.{note_head_in_file}
use Rattle.elf_record.proofs.note_head.NoteHead.decode.Goals as goal

pub returns-clause-is_at : goal.returns-clause-is_at
returns-clause-is_at c = λ file at is. note_head_in_file file at _ _ is (assumption c)
