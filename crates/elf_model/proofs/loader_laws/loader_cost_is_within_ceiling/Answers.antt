use Rattle.elf_model.proofs.LoaderCost.{loader_cost_is_within_ceiling}
use Rattle.elf_model.proofs.loader_laws.loader_cost_is_within_ceiling.Goals as goal

pub returns : goal.returns
returns c = loader_cost_is_within_ceiling
