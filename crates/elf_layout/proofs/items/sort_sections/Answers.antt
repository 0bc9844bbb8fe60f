use Rattle.std.proofs.Common.{nat_cmp}
use Rattle.std.proofs.lemmas.List.Sorted.{IsPermutation-map}
use Rattle.elf_layout.specs.Lent.{borrowed_index}
use Rattle.elf_layout.proofs.ListedSteps.{keys_sorted}
use Rattle.elf_layout.proofs.items.sort_sections.Goals as goal

pub returns-clause-same : goal.returns-clause-same
returns-clause-same c = IsPermutation-map (λ item. (borrowed_index item, item.address)) _ _ c.sort_unstable.ensures.permutation

pub returns-clause-sorted : goal.returns-clause-sorted
returns-clause-sorted c = keys_sorted borrowed_index (λ item. item.address) _ nat_cmp c.sort_unstable.ensures.sorted
