use Rattle.elf_model.proofs.NoteRowLaws.{rows_stand}
use Rattle.elf_model.proofs.notes.rows_stand.Goals as goal

pub returns : goal.returns
returns c = rows_stand
