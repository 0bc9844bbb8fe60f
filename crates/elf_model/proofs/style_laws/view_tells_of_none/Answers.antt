use Rattle.elf_model.proofs.StyleLemmas.{view_tells_of_none}
use Rattle.elf_model.proofs.style_laws.view_tells_of_none.Goals as goal

pub returns : goal.returns
returns c = view_tells_of_none
