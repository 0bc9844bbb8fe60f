-- None of the bytes before this one is a NUL.
use Rattle.std.proofs.Common.{length, ◌-◌, ◌≢◌, ◌≤◌, ◌<◌, ℕ, slice_index}
use Rattle.elf_layout.proofs.lent.name_end.Given as goal

abbrev pub invariant-loop-end : goal.invariant-loop-end
invariant-loop-end l = record {
  within : l.end ≤ length l.bytes;
  before : (k : ℕ) → k < l.end → slice_index l.bytes k ≢ 0;
}

abbrev pub decreases-loop-end : goal.decreases-loop-end
decreases-loop-end l = length l.bytes - l.end
