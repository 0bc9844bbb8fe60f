use Rattle.std.proofs.Common.{◌≡◌}
use Rattle.elf_tests.proofs.tables.rows_given.Given as goal

abbrev pub invariant-loop-row : goal.invariant-loop-row
invariant-loop-row g l = record {
  same_table : l.cursor.table ≡ l.fn.cursor.table;
  same_size : l.src.seen.size ≡ l.fn.src.seen.size;
}

abbrev pub decreases-loop-row : goal.decreases-loop-row
decreases-loop-row g l = l.cursor.left
