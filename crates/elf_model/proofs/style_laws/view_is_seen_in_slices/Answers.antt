use Rattle.elf_model.proofs.StyleLemmas.{view_in_slices}
use Rattle.elf_model.proofs.style_laws.view_is_seen_in_slices.Goals as goal

pub returns : goal.returns
returns c = view_in_slices
