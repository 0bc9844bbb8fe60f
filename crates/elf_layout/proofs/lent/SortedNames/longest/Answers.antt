use Rattle.std.proofs.Common.{◌≤◌, sym, subst}
use Rattle.elf_layout.proofs.NameSteps.{few_bytes}
use Rattle.elf_layout.proofs.lent.SortedNames.longest.Goals as goal

pub returns-clause-few : goal.returns-clause-few
returns-clause-few c = subst (λ n. n ≤ 255) (sym c.self.invariant.1) (few_bytes c.self.inside.items.now c.self.invariant.0.names)
