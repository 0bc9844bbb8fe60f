use Rattle.std.proofs.Common.{◌≡◌, ℕ, List, Some}
use Rattle.elf_model.specs.TraitNumbers.{DT_FLAGS_1}
use Rattle.elf_model.specs.Prelude.{DT_STRSZ, DT_STRTAB, dynamic_value, listed_value}
use Rattle.elf_table.specs.Cursors.{next_row}
use Rattle.elf_note.specs.DynCursors.{entries_left, first_value}
use Rattle.elf_note.proofs.EntriesLoop.{GoesOver}
use Rattle.elf_library.proofs.entry_values.entry_values.Given as goal

abbrev pub invariant-entries : goal.invariant-entries
invariant-entries g l = record {
  goes : GoesOver l.fn.table l.fn.src l.src l.cursor;
  address : (file : List ℕ) → l.fn.src.seen.file ≡ Some file
      → first_value l.address (dynamic_value file (next_row l.cursor.cursor) (entries_left file l.cursor) DT_STRTAB) ≡ listed_value file l.fn.table.at l.fn.table.count DT_STRTAB;
  size : (file : List ℕ) → l.fn.src.seen.file ≡ Some file
      → first_value l.size (dynamic_value file (next_row l.cursor.cursor) (entries_left file l.cursor) DT_STRSZ) ≡ listed_value file l.fn.table.at l.fn.table.count DT_STRSZ;
  flags : (file : List ℕ) → l.fn.src.seen.file ≡ Some file
      → first_value l.flags_1 (dynamic_value file (next_row l.cursor.cursor) (entries_left file l.cursor) DT_FLAGS_1) ≡ listed_value file l.fn.table.at l.fn.table.count DT_FLAGS_1;
}

abbrev pub decreases-entries : goal.decreases-entries
decreases-entries g l = l.cursor.cursor.left
