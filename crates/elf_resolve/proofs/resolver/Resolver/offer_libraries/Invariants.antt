use Rattle.std.proofs.Common.{◌≡◌}
use Rattle.elf_resolve.specs.ReadBudgets.{KeepsToBudget}
use Rattle.elf_resolve.proofs.resolver.Resolver.offer_libraries.Given as goal

abbrev pub invariant-loop-library : goal.invariant-loop-library
invariant-loop-library g l = (g.F.InputFiles.text l.files.files ≡ g.F.InputFiles.text l.initial.files.files) × KeepsToBudget l.initial.files.budget l.files.budget
