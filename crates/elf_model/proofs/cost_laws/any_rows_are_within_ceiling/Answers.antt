use Rattle.elf_model.proofs.StoreLemmas.{any_rows}
use Rattle.elf_model.proofs.cost_laws.any_rows_are_within_ceiling.Goals as goal

pub returns : goal.returns
returns c = any_rows
