-- The windows before `window` are marked.
use Rattle.std.proofs.Common.{◌≡◌, ℕ, ◌+◌, ◌-◌, ◌/◌, ◌<◌, ◌≤◌, ◌&&◌, ◌||◌, nat_lt, not, max, get_or, false}
use Rattle.elf_image.proofs.marks.WindowMarks.mark.Given as goal

abbrev pub invariant-loop-window : goal.invariant-loop-window
invariant-loop-window l = record {
  few : l.last < 4096;
  begun : l.offset / l.size ≤ l.window;
  most : l.window ≤ max (l.last + 1) (l.offset / l.size);
  marked : (k : ℕ) → k < 4096 → get_or l.self.met k false ≡ (get_or l.fn.self.met k false || (not (nat_lt k (l.offset / l.size)) && nat_lt k l.window));
}

abbrev pub decreases-loop-window : goal.decreases-loop-window
decreases-loop-window l = l.last + 1 - l.window
