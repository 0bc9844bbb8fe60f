-- The traits of the symbols so far are known, and those that are left decide the rest.
use Rattle.std.proofs.Common.{◌≡◌, ◌+◌, ◌*◌, ◌≤◌, ℕ, List, None, Some}
use Rattle.elf_source.specs.Source.{ReadsUpTo}
use Rattle.elf_note.specs.Ahead.{IsAheadOf}
use Rattle.elf_table.specs.Prelude.{HoldsRows, next_row, strings_in, unread_bytes}
use Rattle.elf_loader.specs.Marks.{marks_in, symbol_traits_of}
use Rattle.elf_loader.proofs.trait_symbols.symbol_traits_of_rows.Given as goal

abbrev pub invariant-symbols : goal.invariant-symbols
invariant-symbols g l = record {
  same_table : l.cursor.table ≡ l.fn.rows;
  not_failed : l.cursor.failed ≡ None;
  reads : ReadsUpTo l.fn.src l.src (l.fn.rows.count * 88);
  account : l.src.asked + l.ahead.credit + (unread_bytes l.cursor + l.cursor.left * 64) ≤ l.fn.src.asked + l.fn.rows.count * 88;
  agrees : (file : List ℕ) → l.fn.src.seen.file ≡ Some file → HoldsRows file l.cursor;
  held : (file : List ℕ) → l.fn.src.seen.file ≡ Some file → IsAheadOf file l.ahead;
  left : (file : List ℕ) → l.fn.src.seen.file ≡ Some file
      → marks_in file l.fn.rows.at (strings_in file l.fn.names) (symbol_traits_of l.fn.before) l.fn.rows.count
      ≡ marks_in file (next_row l.cursor) (strings_in file l.fn.names) (symbol_traits_of l.marks) l.cursor.left;
}

abbrev pub decreases-symbols : goal.decreases-symbols
decreases-symbols g l = l.cursor.left
