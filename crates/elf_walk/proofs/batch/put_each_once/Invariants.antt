use Rattle.std.proofs.Common.{◌≡◌, take}
use Rattle.elf_walk.specs.Passes.{in_order}
use Rattle.elf_walk.proofs.batch.put_each_once.Given as goal

abbrev pub invariant-loop-i : goal.invariant-loop-i
invariant-loop-i l = l.to ≡ in_order (take l.i l.from)
