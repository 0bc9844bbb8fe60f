use Rattle.elf_model.proofs.SumLemmas.{last_cost}
use Rattle.elf_model.proofs.cost_laws.last_cost_is_added.Goals as goal

pub returns : goal.returns
returns c = last_cost
