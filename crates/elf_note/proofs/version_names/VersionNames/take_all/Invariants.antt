-- The visited records are added, and the others are left.
use Rattle.std.proofs.Common.{◌≡◌, ◌-◌, ◌≤◌, List, ◌++◌, length, None}
use Rattle.elf_table.specs.Ledger.{CallDid}
use Rattle.elf_model.specs.Versions.{VisitedRecord}
use Rattle.elf_note.specs.Prelude.{IsCursorOf, NamesNumbers, unread, versions_left}
use Rattle.elf_note.proofs.TakenLaws.{after_all}
use Rattle.elf_note.proofs.version_names.VersionNames.take_all.Given as goal

abbrev pub invariant-records : goal.invariant-records
invariant-records g l = record {
  going : l.cursor.failed ≡ None;
  same_held : l.cursor.held ≡ l.fn.cursor.held;
  count : length l.places ≡ length l.fn.places;
  fewer : unread l.cursor ≤ unread l.fn.cursor;
  so_far : CallDid l.fn.src l.src None (unread l.fn.cursor - unread l.cursor)
      (λ file. IsCursorOf file l.fn.cursor → IsCursorOf file l.cursor × ((records : List VisitedRecord) → NamesNumbers file records l.fn.self l.fn.places
      → (seen : List VisitedRecord) × (versions_left file l.fn.cursor ≡ after_all seen (versions_left file l.cursor)) × NamesNumbers file (records ++ seen) l.self l.places));
}

abbrev pub decreases-records : goal.decreases-records
decreases-records g l = l.cursor.left
