-- The objects and their paths are those that there were.
use Rattle.std.proofs.Common.{◌≡◌}
use Rattle.elf_needs.proofs.known_object.ObjectList.replace_names.Given as goal

abbrev pub invariant-loop-index : goal.invariant-loop-index
invariant-loop-index l = (l.self.known ≡ l.fn.self.known) × (l.self.paths ≡ l.fn.self.paths)
