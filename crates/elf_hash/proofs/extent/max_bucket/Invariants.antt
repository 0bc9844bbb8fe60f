-- The words of some buckets are passed, and the largest of them is known.
use Rattle.std.proofs.Common.{◌≡◌, ◌+◌, ◌*◌, ◌≤◌, ℕ, List, None, Some}
use Rattle.elf_model.specs.Prelude.{HashTable as Place, max_bucket}
use Rattle.elf_source.specs.Source.{ReadsUpTo}
use Rattle.elf_table.specs.Cursors.{HoldsRows, unread_bytes}
use Rattle.elf_hash.specs.Counts.{IsGnu}
use Rattle.elf_hash.proofs.ExtentLaws.{buckets_of}
use Rattle.elf_hash.proofs.extent.max_bucket.Given as goal

abbrev pub invariant-words : goal.invariant-words
invariant-words g l = record {
  same_table : l.cursor.table ≡ buckets_of l.fn.table;
  not_failed : l.cursor.failed ≡ None;
  reads : ReadsUpTo l.fn.src l.src (4 * l.fn.table.nbucket);
  account : l.src.asked + unread_bytes l.cursor ≤ l.fn.src.asked + 4 * l.fn.table.nbucket;
  counted : l.cursor.index + l.cursor.left ≡ l.fn.table.nbucket;
  agrees : (file : List ℕ) → l.fn.src.seen.file ≡ Some file → HoldsRows file l.cursor;
  found : (file : List ℕ) → l.fn.src.seen.file ≡ Some file → (at : Place) → IsGnu file at l.fn.table
      → l.highest ≡ max_bucket file at.place l.cursor.index;
}

abbrev pub decreases-words : goal.decreases-words
decreases-words g l = l.cursor.left
