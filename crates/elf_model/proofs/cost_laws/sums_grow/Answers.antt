use Rattle.elf_model.proofs.SumLemmas.{sums_grow}
use Rattle.elf_model.proofs.cost_laws.sums_grow.Goals as goal

pub returns : goal.returns
returns c = sums_grow
