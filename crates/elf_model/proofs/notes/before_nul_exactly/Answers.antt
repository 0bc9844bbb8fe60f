use Rattle.elf_model.proofs.NoteRowLaws.{before_nul_exactly}
use Rattle.elf_model.proofs.notes.before_nul_exactly.Goals as goal

pub returns : goal.returns
returns c = before_nul_exactly
