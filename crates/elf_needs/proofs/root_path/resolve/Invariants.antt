use Rattle.elf_needs.specs.RootPaths.{IsWithinRoot}
use Rattle.elf_needs.proofs.root_path.resolve.Given as goal

abbrev pub invariant-loop : goal.invariant-loop
invariant-loop g l = IsWithinRoot l.fn.root l.found.items
