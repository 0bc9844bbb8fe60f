use Rattle.std.proofs.Common.{◌≡◌, ℕ, ◌<◌, ◌≤◌, ◌-◌, get_or, length}
use Rattle.elf_source.proofs.located_sink.front_without_newline.Given as goal

-- none of the bytes so far is a newline
abbrev pub invariant-loop-piece : goal.invariant-loop-piece
invariant-loop-piece l = record {
  within : l.count ≤ length l.bytes;
  none : (k : ℕ) → k < l.count → get_or l.bytes k 0 ≡ 10 → ⊥;
}

abbrev pub decreases-loop-piece : goal.decreases-loop-piece
decreases-loop-piece l = length l.bytes - l.count
