use Rattle.std.proofs.Common.{◌≡◌, ◌≢◌, ℕ, ◌<◌, ◌≤◌, ◌-◌, length, get_or}
use Rattle.elf_format.proofs.note_contents.before_nul.Given as goal

-- no byte so far is a NUL
abbrev pub invariant-loop-end : goal.invariant-loop-end
invariant-loop-end l = record {
  within : l.end ≤ length l.bytes;
  others : (k : ℕ) → k < l.end → get_or l.bytes k 0 ≢ 0;
}

abbrev pub decreases-loop-end : goal.decreases-loop-end
decreases-loop-end l = length l.bytes - l.end
