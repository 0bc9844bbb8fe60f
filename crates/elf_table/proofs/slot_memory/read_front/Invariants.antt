-- The first bytes so far are the file's, and each was requested once.
use Rattle.std.proofs.Common.{◌-◌, ◌≡◌, ℕ, ◌≤◌, List, Some, length, take}
use Rattle.elf_model.specs.Bytes.{slice}
use Rattle.elf_source.specs.Source.{ReadsUpTo}
use Rattle.elf_table.proofs.slot_memory.read_front.Given as goal

abbrev pub invariant-loop-done : goal.invariant-loop-done
invariant-loop-done g l = record {
  within : l.done ≤ l.size;
  room : l.size ≤ length l.bytes;
  reads : ReadsUpTo l.fn.src l.src l.done;
  read : (file : List ℕ) → l.fn.src.seen.file ≡ Some file → take l.done l.bytes ≡ slice file l.from l.done;
}

abbrev pub decreases-loop-done : goal.decreases-loop-done
decreases-loop-done g l = l.size - l.done
