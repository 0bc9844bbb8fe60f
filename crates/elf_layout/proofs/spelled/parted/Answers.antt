use Rattle.elf_layout.proofs.ItemLaws.{split_at_sign, parted_nowhere}
use Rattle.elf_layout.proofs.spelled.parted.Goals as goal

pub returns-clause-parts : goal.returns-clause-parts
returns-clause-parts c = split_at_sign _ _ c.rsplit_once.ensures.cases

pub returns-clause-none : goal.returns-clause-none
returns-clause-none c = parted_nowhere _ _ c.rsplit_once.ensures.cases
