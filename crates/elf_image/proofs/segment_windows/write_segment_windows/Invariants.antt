-- The bytes so far were written, and there is room for a window.
use Rattle.std.proofs.Common.{◌≡◌, ◌-◌, ◌≤◌, ℕ, List, length, take}
use Rattle.elf_model.specs.Image.{ImageSource, SegmentWrite}
use Rattle.elf_source.specs.Prelude.{ReadsUpTo, SinkTakes}
use Rattle.elf_image.specs.SegmentWrites.{WritesFrom}
use Rattle.elf_image.specs.Written.{MarksWrites, bytes_after}
use Rattle.elf_image.proofs.SegmentWindowSteps.{IsAtWindow, reads_before}
use Rattle.elf_image.proofs.segment_windows.write_segment_windows.Given as goal

abbrev pub invariant-windows : goal.invariant-windows
invariant-windows g l = record {
  sized : l.size ≡ l.target.size;
  within : l.low ≤ l.size;
  room : l.target.window ≤ length l.room;
  index : (k : ℕ) × IsAtWindow l.target l.low k × ReadsUpTo l.fn.src l.src (reads_before l.image l.target l.marks.met l.low k);
  text : (source : ImageSource) (writes : List SegmentWrite) → WritesFrom l.fn.src l.image source l.target writes
      → MarksWrites l.target.window l.target.index writes l.marks → SinkTakes l.fn.out l.out (take l.low (bytes_after source l.target writes));
}

abbrev pub decreases-windows : goal.decreases-windows
decreases-windows g l = l.size - l.low
