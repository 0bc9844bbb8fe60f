use Rattle.elf_model.proofs.NoteRowLaws.{rows_aligned}
use Rattle.elf_model.proofs.notes.rows_aligned.Goals as goal

pub returns : goal.returns
returns c = rows_aligned
