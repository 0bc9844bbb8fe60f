-- A name that is shown whole is the bytes before the first NUL; one that is truncated is longer.
use Rattle.std.proofs.Common.{◌∙◌}
use Rattle.elf_loader.proofs.ListLaws.{gnu_cut, gnu_whole}
use Rattle.elf_loader.proofs.trait_notes.is_property_note.Goals as goal

pub returns-in-Whole : goal.returns-in-Whole
returns-in-Whole c = λ note kind namesz named. c.is_gnu_list.ensures ∙ gnu_whole note _ _ _ kind namesz (rw c.in-Whole.is at named)

pub returns-in-Cut : goal.returns-in-Cut
returns-in-Cut c = λ note kind namesz named. gnu_cut note _ (rw c.in-Cut.is at named)
