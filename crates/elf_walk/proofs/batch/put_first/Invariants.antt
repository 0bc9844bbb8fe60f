use Rattle.std.proofs.Common.{◌≡◌, take}
use Rattle.elf_walk.specs.Held.{IsWithinKept}
use Rattle.elf_walk.proofs.batch.put_first.Given as goal

abbrev pub invariant-loop-i : goal.invariant-loop-i
invariant-loop-i l = record { front : l.to ≡ take l.i l.from; within : IsWithinKept l.to }
