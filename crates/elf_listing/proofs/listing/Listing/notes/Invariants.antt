-- The notes before the cursor's were shown, and what may still be read is counted.
use Rattle.std.proofs.Common.{◌≡◌, ℕ, ◌+◌, ◌≤◌, List, None, Some}
use Rattle.elf_options.specs.Permitted.{style_of}
use Rattle.elf_model.specs.Prelude.{note_align, slice, walk_rows, walked}
use Rattle.elf_note.specs.Prelude.{ReadsOnCredit, notes_left}
use Rattle.elf_table.specs.Windows.{HoldsBytes, bytes_left}
use Rattle.elf_source.specs.Growth.{OutGrows}
use Rattle.elf_listing.specs.Prelude.{SameFile, WrittenBefore, note_items}
use Rattle.elf_listing.proofs.listing.Listing.notes.Given as goal

abbrev pub invariant-notes : goal.invariant-notes
invariant-notes g l =
    let style = style_of l.fn.self.style in
    let align = note_align l.fn.align in
    record {
      same_table : l.cursor.table ≡ l.fn.table;
      same_align : l.cursor.align ≡ align;
      not_failed : l.cursor.failed ≡ None;
      keeps : SameFile l.fn.self l.self;
      spends : ReadsOnCredit l.fn.self.src.now l.self.src.now l.fn.self.ahead.credit l.self.ahead.credit l.fn.table.count;
      asked : l.self.src.now.asked + l.self.ahead.credit + l.cursor.ahead.unread ≤ l.fn.self.src.now.asked + (l.fn.self.ahead.credit + l.fn.table.count);
      agrees : (file : List ℕ) → l.fn.self.src.now.seen.file ≡ Some file → HoldsBytes file l.cursor.ahead;
      grows : OutGrows l.fn.self.out.now l.self.out.now;
      text : (file : List ℕ) → l.fn.self.src.now.seen.file ≡ Some file
          → WrittenBefore l.fn.self.out.now l.self.out.now
          (walk_rows style l.fn.index align l.fn.table.at (walked align (slice file l.fn.table.at l.fn.table.count)))
          (note_items style l.fn.index align l.cursor.ahead.at (notes_left align file l.cursor.ahead));
    }

abbrev pub decreases-notes : goal.decreases-notes
decreases-notes g l = bytes_left l.cursor.ahead
