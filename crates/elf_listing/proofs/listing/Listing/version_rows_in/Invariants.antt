-- The records before the cursor's were shown, and what may still be read is counted.
use Rattle.std.proofs.Common.{◌≡◌, ◌+◌, ◌≤◌, List, ℕ, None, Some}
use Rattle.elf_options.specs.Permitted.{style_of}
use Rattle.elf_note.specs.Prelude.{IsCursorOf, ReadsOnCredit, versions_left}
use Rattle.elf_source.specs.Growth.{OutGrows}
use Rattle.elf_table.specs.Tables.{strings_in}
use Rattle.elf_listing.specs.Prelude.{SameFile, WrittenBefore, records_cost, versions_items}
use Rattle.elf_listing.proofs.listing.Listing.version_rows_in.Given as goal

abbrev pub invariant-records : goal.invariant-records
invariant-records g l =
    let cap = l.fn.self.style.cap.bytes in
    let cost = records_cost l.fn.cursor cap in
    record {
      going : l.cursor.failed ≡ None;
      same_held : l.cursor.held ≡ l.fn.cursor.held;
      keeps : SameFile l.fn.self l.self;
      spends : ReadsOnCredit l.fn.self.src.now l.self.src.now l.fn.self.ahead.credit l.self.ahead.credit cost;
      asked : l.self.src.now.asked + l.self.ahead.credit + records_cost l.cursor cap ≤ l.fn.self.src.now.asked + (l.fn.self.ahead.credit + cost);
      agrees : (file : List ℕ) → l.fn.self.src.now.seen.file ≡ Some file → IsCursorOf file l.fn.cursor → IsCursorOf file l.cursor;
      grows : OutGrows l.fn.self.out.now l.self.out.now;
      text : (file : List ℕ) → l.fn.self.src.now.seen.file ≡ Some file → IsCursorOf file l.fn.cursor
          → WrittenBefore l.fn.self.out.now l.self.out.now
          (versions_items file (style_of l.fn.self.style) l.fn.section (strings_in file l.fn.names) (versions_left file l.fn.cursor))
          (versions_items file (style_of l.fn.self.style) l.fn.section (strings_in file l.fn.names) (versions_left file l.cursor));
    }

abbrev pub decreases-records : goal.decreases-records
decreases-records g l = l.cursor.left
