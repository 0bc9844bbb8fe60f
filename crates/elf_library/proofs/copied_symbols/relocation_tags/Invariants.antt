use Rattle.std.proofs.Common.{◌≡◌, ℕ, List, Some}
use Rattle.elf_model.specs.Prelude.{dynamic_value, listed_value}
use Rattle.elf_table.specs.Cursors.{next_row}
use Rattle.elf_note.specs.DynCursors.{entries_left, first_value}
use Rattle.elf_note.proofs.EntriesLoop.{GoesOver}
use Rattle.elf_model.specs.Numbers.{DT_RELA, DT_RELASZ}
use Rattle.elf_library.proofs.copied_symbols.relocation_tags.Given as goal

-- some entries are passed, and what is found or left is what the table has
abbrev pub invariant-entries : goal.invariant-entries
invariant-entries g l = record {
  goes : GoesOver l.fn.table l.fn.src l.src l.cursor;
  address : (file : List ℕ) → l.fn.src.seen.file ≡ Some file
      → first_value l.address (dynamic_value file (next_row l.cursor.cursor) (entries_left file l.cursor) DT_RELA) ≡ listed_value file l.fn.table.at l.fn.table.count DT_RELA;
  size : (file : List ℕ) → l.fn.src.seen.file ≡ Some file
      → first_value l.size (dynamic_value file (next_row l.cursor.cursor) (entries_left file l.cursor) DT_RELASZ) ≡ listed_value file l.fn.table.at l.fn.table.count DT_RELASZ;
}

abbrev pub decreases-entries : goal.decreases-entries
decreases-entries g l = l.cursor.cursor.left
