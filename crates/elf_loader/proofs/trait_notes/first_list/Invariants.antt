-- No note so far lists properties, and those that are left decide.
use Rattle.std.proofs.Common.{◌≡◌, ◌+◌, ◌≤◌, ℕ, List, None, Some}
use Rattle.elf_model.specs.Notes.{note_align}
use Rattle.elf_source.specs.Source.{ReadsUpTo}
use Rattle.elf_note.specs.NoteCursors.{notes_left}
use Rattle.elf_table.specs.Windows.{HoldsBytes, bytes_left, range_end}
use Rattle.elf_loader.specs.Lists.{first_list, list_among}
use Rattle.elf_loader.proofs.trait_notes.first_list.Given as goal

abbrev pub invariant-notes : goal.invariant-notes
invariant-notes g l = record {
  same_table : l.cursor.table ≡ l.fn.table;
  same_align : l.cursor.align ≡ note_align l.fn.align;
  not_failed : l.cursor.failed ≡ None;
  reads : ReadsUpTo l.fn.src l.src l.fn.table.count;
  account : l.src.asked + l.cursor.ahead.unread ≤ l.fn.src.asked + l.fn.table.count;
  onward : l.fn.table.at ≤ l.cursor.ahead.at;
  ends : range_end l.cursor.ahead ≡ l.fn.table.at + l.fn.table.count;
  agrees : (file : List ℕ) → l.fn.src.seen.file ≡ Some file → HoldsBytes file l.cursor.ahead;
  left : (file : List ℕ) → l.fn.src.seen.file ≡ Some file
      → first_list file l.fn.align l.fn.table ≡ list_among (note_align l.fn.align) l.cursor.ahead.at (notes_left (note_align l.fn.align) file l.cursor.ahead);
}

abbrev pub decreases-notes : goal.decreases-notes
decreases-notes g l = bytes_left l.cursor.ahead
