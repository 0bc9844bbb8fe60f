use Rattle.std.proofs.Common.{◌≡◌, ◌+◌, ◌++◌}
use Rattle.arrayvec.specs.ArrayVec.{array_vec_len}
use Rattle.elf_model.specs.Text.{spaces}
use Rattle.elf_format.proofs.columns.put_spaces.Given as goal

abbrev pub invariant-loop : goal.invariant-loop
invariant-loop l = record {
  items : l.line.items ≡ l.fn.line.items ++ spaces l.counter;
  length : array_vec_len l.line ≡ array_vec_len l.fn.line + l.counter;
}
