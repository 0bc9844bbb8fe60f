use Rattle.std.proofs.lemmas.List.Sorted.{All-permutation, IsPermutation-map}
use Rattle.elf_layout.specs.Prelude.{IsName, lent_name, name_order, named}
use Rattle.elf_layout.proofs.ListedSteps.{keys_sorted}
use Rattle.elf_layout.proofs.items.sort_names.Goals as goal

pub returns-clause-same : goal.returns-clause-same
returns-clause-same c = IsPermutation-map (λ item. (lent_name item, item.address)) _ _ c.sort_unstable.ensures.permutation

pub returns-clause-sorted : goal.returns-clause-sorted
returns-clause-sorted c = keys_sorted lent_name (λ item. item.address) _ name_order c.sort_unstable.ensures.sorted

pub returns-clause-names : goal.returns-clause-names
returns-clause-names c = All-permutation (λ item. IsName item.0) (named c.args.items.now.items) (named c.sort_unstable.new.self.items) (IsPermutation-map (λ item. (lent_name item, item.address)) _ _ c.sort_unstable.ensures.permutation)
