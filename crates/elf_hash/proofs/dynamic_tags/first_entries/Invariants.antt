use Rattle.std.proofs.Common.{◌≡◌, ℕ, List, Some}
use Rattle.elf_table.specs.Cursors.{next_row}
use Rattle.elf_note.specs.DynCursors.{entries_left}
use Rattle.elf_note.proofs.EntriesLoop.{GoesOver}
use Rattle.elf_hash.specs.Entries.{EachTag, first_entry, listed_entry, tagged_entry}
use Rattle.elf_hash.proofs.dynamic_tags.first_entries.Given as goal

abbrev pub invariant-entries : goal.invariant-entries
invariant-entries g l = record {
  goes : GoesOver l.fn.table l.fn.src l.src l.cursor;
  found : (file : List ℕ) → l.fn.src.seen.file ≡ Some file
      → EachTag (λ entry tag. first_entry entry (tagged_entry file (next_row l.cursor.cursor) (entries_left file l.cursor) tag) ≡ listed_entry file l.fn.table tag) l.found;
}

abbrev pub decreases-entries : goal.decreases-entries
decreases-entries g l = l.cursor.cursor.left
