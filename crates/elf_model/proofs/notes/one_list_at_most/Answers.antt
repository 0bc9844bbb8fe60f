use Rattle.elf_model.proofs.NoteLaws.{one_list}
use Rattle.elf_model.proofs.notes.one_list_at_most.Goals as goal

pub returns : goal.returns
returns c = one_list
