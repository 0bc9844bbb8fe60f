use Rattle.std.proofs.Common.{◌≡◌}
use Rattle.elf_table.specs.Windows.{bytes_left}
use Rattle.elf_tests.proofs.notes.notes_given.Given as goal

abbrev pub invariant-notes : goal.invariant-notes
invariant-notes g l = record {
  same_table : l.cursor.table ≡ l.fn.cursor.table;
  same_size : l.src.seen.size ≡ l.fn.src.seen.size;
}

abbrev pub decreases-notes : goal.decreases-notes
decreases-notes g l = bytes_left l.cursor.ahead
