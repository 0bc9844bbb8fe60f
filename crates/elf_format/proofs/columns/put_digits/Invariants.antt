use Rattle.std.proofs.Common.{◌≡◌, ◌+◌, ◌≤◌, ◌++◌}
use Rattle.arrayvec.specs.ArrayVec.{array_vec_len}
use Rattle.elf_model.specs.Text.{hex}
use Rattle.elf_format.proofs.columns.put_digits.Given as goal

-- what is appended, and the digits that are left, are the digits
abbrev pub invariant-loop-left : goal.invariant-loop-left
invariant-loop-left l = record {
  digits : l.line.items ++ hex l.left l.number ≡ l.fn.line.items ++ hex l.fn.digits l.number;
  length : array_vec_len l.line + l.left ≡ array_vec_len l.fn.line + l.fn.digits;
  few : l.left ≤ 16;
}

abbrev pub decreases-loop-left : goal.decreases-loop-left
decreases-loop-left l = l.left
