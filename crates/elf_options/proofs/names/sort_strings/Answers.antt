use Rattle.std.proofs.lemmas.List.Sorted.{IsPermutation-map}
use Rattle.elf_options.proofs.names.sort_strings.Goals as goal

pub returns-clause-same : goal.returns-clause-same
returns-clause-same c = IsPermutation-map (λ text. text.now) _ _ c.sort_unstable.ensures.permutation
