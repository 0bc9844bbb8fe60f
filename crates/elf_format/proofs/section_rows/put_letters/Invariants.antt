use Rattle.std.proofs.Common.{◌≡◌, ◌+◌, ◌≤◌, ◌++◌, length}
use Rattle.arrayvec.specs.ArrayVec.{array_vec_len}
use Rattle.elf_model.specs.NameTables.{letters_of}
use Rattle.elf_format.specs.Tables.{letters}
use Rattle.elf_format.proofs.section_rows.put_letters.Given as goal

-- what is appended, and the letters of the flags that are left, are the letters
abbrev pub invariant-loop-table : goal.invariant-loop-table
invariant-loop-table l = record {
  items : l.line.items ++ letters_of (letters l.table) l.bits ≡ l.fn.line.items ++ letters_of (letters l.fn.table) l.bits;
  length : array_vec_len l.line + length l.table ≤ array_vec_len l.fn.line + length l.fn.table;
}

abbrev pub decreases-loop-table : goal.decreases-loop-table
decreases-loop-table l = length l.table
