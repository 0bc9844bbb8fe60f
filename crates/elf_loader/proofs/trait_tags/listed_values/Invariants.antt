-- Some entries are passed, and what is found or left is what the table has.
use Rattle.std.proofs.Common.{◌≡◌, ℕ, List, Some}
use Rattle.elf_note.proofs.EntriesLoop.{GoesOver}
use Rattle.elf_loader.proofs.ValueLaws.{LeftValues}
use Rattle.elf_loader.proofs.trait_tags.listed_values.Given as goal

abbrev pub invariant-entries : goal.invariant-entries
invariant-entries g l = record {
  goes : GoesOver l.fn.table l.fn.src l.src l.cursor;
  found : (file : List ℕ) → l.fn.src.seen.file ≡ Some file → LeftValues file l.fn.table l.cursor l.found;
}

abbrev pub decreases-entries : goal.decreases-entries
decreases-entries g l = l.cursor.cursor.left
