use Rattle.elf_model.proofs.NoteRowLaws.{note_shown_cut}
use Rattle.elf_model.proofs.notes.note_shown_cut_exactly.Goals as goal

pub returns : goal.returns
returns c = note_shown_cut
