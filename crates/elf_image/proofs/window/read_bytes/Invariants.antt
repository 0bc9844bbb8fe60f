-- The bytes before `done` are read.
use Rattle.std.proofs.Common.{◌-◌, ◌^◌, ◌<◌, ◌≤◌, ◌≡◌, ℕ, List, None, Some, length, take}
use Rattle.elf_model.specs.Bytes.{slice}
use Rattle.elf_table.specs.Ledger.{CallReads}
use Rattle.elf_image.proofs.window.read_bytes.Given as goal

abbrev pub invariant-loop-done : goal.invariant-loop-done
invariant-loop-done g l = record {
  within : l.done ≤ length l.bytes;
  long : length l.bytes ≡ length l.fn.bytes;
  costs : CallReads l.fn.src l.src None l.done;
  read : (file : List ℕ) → l.fn.src.seen.file ≡ Some file → l.fn.src.seen.size < 2 ^ 64 → take l.done l.bytes ≡ slice file l.at l.done;
}

abbrev pub decreases-loop-done : goal.decreases-loop-done
decreases-loop-done g l = length l.bytes - l.done
