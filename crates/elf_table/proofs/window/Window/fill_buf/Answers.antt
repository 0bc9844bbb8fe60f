use Rattle.std.proofs.Common.{arith}
use Rattle.std.proofs.lemmas.Grind.{common_steps}
use Rattle.elf_table.proofs.ThroughLaws.{through_none}
use Rattle.elf_table.proofs.window.Window.fill_buf.Goals as goal

pub returns-then-self-count-clause-went : goal.returns-then-self-count-clause-went
returns-then-self-count-clause-went g c = through_none _ _ _ _

pub returns-then-self-count-clause-brings : goal.returns-then-self-count-clause-brings
returns-then-self-count-clause-brings g c = grind (arith, common_steps)

pub read_page-requires : goal.read_page-requires
read_page-requires g c = grind (arith, common_steps)

pub returns-clause-brings : goal.returns-clause-brings
returns-clause-brings g c = grind (arith, common_steps)
