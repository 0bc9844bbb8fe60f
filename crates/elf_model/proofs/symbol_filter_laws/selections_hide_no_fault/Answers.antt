use Rattle.elf_model.proofs.KindLists.{selections_hide_no_fault}
use Rattle.elf_model.proofs.symbol_filter_laws.selections_hide_no_fault.Goals as goal

pub returns : goal.returns
returns c = selections_hide_no_fault
