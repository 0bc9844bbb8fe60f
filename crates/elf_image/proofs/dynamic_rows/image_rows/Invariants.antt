-- The entries that were read so far, of which none has the tag of one before it.
use Rattle.std.proofs.Common.{◌≡◌, ℕ, ◌+◌, ◌/◌, List, Some}
use Rattle.elf_model.specs.Checks.{first_refusal}
use Rattle.elf_model.specs.ImageChecks.{repeat_checks}
use Rattle.elf_model.specs.Prelude.{p_filesz, p_offset}
use Rattle.elf_table.specs.Cursors.{next_row}
use Rattle.elf_note.specs.DynCursors.{entries_left}
use Rattle.elf_note.proofs.EntriesLoop.{GoesOver}
use Rattle.elf_image.proofs.RowSteps.{RowsSoFar, checks_left}
use Rattle.elf_image.proofs.dynamic_rows.image_rows.Given as goal

abbrev pub invariant-entries : goal.invariant-entries
invariant-entries g l = record {
  goes : GoesOver l.fn.table l.fn.src l.src l.cursor;
  all : l.cursor.cursor.index + l.cursor.cursor.left ≡ l.fn.table.count;
  few : l.rows.count ≡ l.cursor.cursor.index;
  found : (file : List ℕ) → l.fn.src.seen.file ≡ Some file → RowsSoFar file l.fn.table (next_row l.cursor.cursor) (entries_left file l.cursor) l.rows;
  checked : (file : List ℕ) → l.fn.src.seen.file ≡ Some file → (at : ℕ) → l.fn.table.at ≡ p_offset file at → l.fn.table.count ≡ p_filesz file at / 16
      → first_refusal (checks_left file at (p_offset file at) l.cursor.cursor.index (entries_left file l.cursor)) ≡ first_refusal (repeat_checks file at);
}

abbrev pub decreases-entries : goal.decreases-entries
decreases-entries g l = l.cursor.cursor.left
