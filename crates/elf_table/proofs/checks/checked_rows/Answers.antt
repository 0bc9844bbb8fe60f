use Rattle.std.proofs.Common.{arith, rules}
use Rattle.std.proofs.lemmas.Grind.{common_steps}
use Rattle.elf_table.proofs.checks.checked_rows.Goals as goal

pub returns-clause-lies : goal.returns-clause-lies
returns-clause-lies c = record { within = search rules; entry = search rules; sized = grind (arith, common_steps) }
