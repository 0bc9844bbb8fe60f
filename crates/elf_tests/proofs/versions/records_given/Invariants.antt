use Rattle.std.proofs.Common.{◌≡◌}
use Rattle.elf_tests.proofs.versions.records_given.Given as goal

abbrev pub invariant-records : goal.invariant-records
invariant-records g l = record {
  same_held : l.cursor.held ≡ l.fn.cursor.held;
  same_size : l.src.seen.size ≡ l.fn.src.seen.size;
}

abbrev pub decreases-records : goal.decreases-records
decreases-records g l = l.cursor.left
