-- How many bytes the last line has before this one; no line before it has too many.
use Rattle.std.proofs.Common.{ℕ, ◌+◌, List, ◌++◌, length}
use Rattle.elf_layout.specs.Texts.{HasShortLines, IsWithinLine}
use Rattle.elf_layout.proofs.texts.lines_end.Given as goal

abbrev pub invariant-loop-i : goal.invariant-loop-i
invariant-loop-i l =
    (before : List ℕ) → IsWithinLine before (length before) l.initial.line → HasShortLines before (length before)
    → IsWithinLine (before ++ l.piece) (length before + l.i) l.line × HasShortLines (before ++ l.piece) (length before + l.i)
