-- The lines of what is lacking come after that of the file's traits.
use Rattle.std.proofs.Common.{subst}
use Rattle.elf_source.specs.Output.{OutPuts}
use Rattle.elf_format.proofs.PutsSteps.{puts_then}
use Rattle.elf_walk.proofs.LackingLaws.{then_lacking}
use Rattle.elf_walk.proofs.trait_lines.show_lines.Goals as goal

pub returns-clause-puts : goal.returns-clause-puts
returns-clause-puts g c = subst (OutPuts _ _ c.show_missing_traits.result) (then_lacking _ _ _ _) (puts_then _ _ _ _ c.in_ok-show_traits.ensures.puts.0 c.show_missing_traits.ensures.puts)
