-- The entries that were processed are stored, and those that are left give the rest.
use Rattle.std.proofs.Common.{◌≡◌, ◌+◌, ◌*◌, ◌≤◌, ℕ, List, None, Some}
use Rattle.elf_model.specs.Prelude.{dynamic_count, linked_from, no_link_info}
use Rattle.elf_source.specs.Source.{ReadsUpTo}
use Rattle.elf_table.specs.Prelude.{HoldsProgramHeaders, HoldsRows, next_row, size_of, unread_bytes}
use Rattle.elf_note.specs.DynCursors.{entries_left}
use Rattle.elf_library.proofs.LoopLaws.{LeftLinks}
use Rattle.elf_library.proofs.entries.list_link_info.Given as goal

abbrev pub invariant-entries : goal.invariant-entries
invariant-entries g l = record {
  same_table : l.cursor.cursor.table ≡ l.fn.table;
  not_failed : l.cursor.cursor.failed ≡ None;
  reads : ReadsUpTo l.fn.src l.src (size_of l.fn.table + l.fn.table.count * 4160);
  account : l.src.asked + (unread_bytes l.cursor.cursor + l.cursor.cursor.left * 4160) ≤ l.fn.src.asked + (size_of l.fn.table + l.fn.table.count * 4160);
  agrees : (file : List ℕ) → l.fn.src.seen.file ≡ Some file → HoldsRows file l.cursor.cursor;
  left : (file : List ℕ) → l.fn.src.seen.file ≡ Some file → HoldsProgramHeaders file l.fn.strings.view.now.loaded l.fn.strings.view.now.store.now
      → LeftLinks
      (linked_from file l.fn.strings.told.address l.fn.strings.told.size l.fn.table.at (record { links = no_link_info; room = l.fn.store.held.room }) (dynamic_count file l.fn.table.at l.fn.table.count))
      file l.fn.strings.told.address l.fn.strings.told.size (next_row l.cursor.cursor) (entries_left file l.cursor) l.fn.store l.store l.links;
}

abbrev pub decreases-entries : goal.decreases-entries
decreases-entries g l = l.cursor.cursor.left
