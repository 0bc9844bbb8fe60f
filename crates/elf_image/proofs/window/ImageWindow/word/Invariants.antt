-- The bytes so far are those of the segment.
use Rattle.std.proofs.Common.{◌≡◌, ◌+◌, ◌<◌, ℕ, List, get_or, length}
use Rattle.elf_image.specs.SegmentParts.{MeetsWord}
use Rattle.elf_image.proofs.window.ImageWindow.word.Given as goal

abbrev pub invariant-loop-i : goal.invariant-loop-i
invariant-loop-i l = record {
  long : length l.bytes ≡ 8;
  same : (base : List ℕ) → MeetsWord base l.self l.offset → (k : ℕ) → k < l.i → get_or l.bytes k 0 ≡ get_or base (l.offset + k) 0;
}
