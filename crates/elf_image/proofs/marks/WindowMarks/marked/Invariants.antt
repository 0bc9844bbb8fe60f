-- As many as are marked of the windows so far.
use Rattle.std.proofs.Common.{◌≡◌, ◌≤◌}
use Rattle.elf_image.specs.Marks.{marked_windows}
use Rattle.elf_image.proofs.marks.WindowMarks.marked.Given as goal

abbrev pub invariant-loop-window : goal.invariant-loop-window
invariant-loop-window l = record { few : l.met ≤ l.window; value : l.met ≡ marked_windows l.self.met l.window }
