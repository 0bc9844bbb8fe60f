-- A loop over the dynamic entries of a table: the sum of its reads, and which entry each step
-- yields.
use Rattle.std.proofs.Common.{◌≡◌, ℕ, suc, ◌+◌, ◌≤◌, List, None, Some, refl, ap, ◌∙◌, arith}
use Rattle.elf_model.specs.Bytes.{slice}
use Rattle.elf_source.specs.Source.{CountedState, ReadsUpTo}
use Rattle.elf_source.proofs.ReadsLaws.{ReadsUpTo-none, ReadsUpTo-then, ReadsUpTo-to}
use Rattle.elf_table.specs.Prelude.{HoldsRows, TableRange, next_row, size_of, unread_bytes}
use Rattle.elf_note.specs.DynCursors.{DynCursorState, GivesEntry, StartsEntries, entries_left}
use Rattle.elf_note.proofs.EntriesLeft.{next-place}

-- the state of a loop over the entries of a table: its cursor did not fail, the requested bytes are
-- no longer unread, and what is held is the file's
pub record GoesOver (table : TableRange) (before after : CountedState) (d : DynCursorState) : Type 0 where
  pub same_table : d.cursor.table ≡ table
  pub not_failed : d.cursor.failed ≡ None
  pub reads : ReadsUpTo before after (size_of table)
  pub account : after.asked + unread_bytes d.cursor ≤ before.asked + size_of table
  pub agrees : (file : List ℕ) → before.seen.file ≡ Some file → HoldsRows file d.cursor

-- before the first entry
pub goes-start : {table : TableRange} (c : CountedState) {d : DynCursorState} → StartsEntries table d → GoesOver table c c d
goes-start {table} c {d} s =
    let unread = s.unread in
    let well = s.not_failed in
    let held = s.held in
    record {
      same_table = s.its_table;
      not_failed = well;
      reads = ReadsUpTo-none c (size_of table);
      account = rw (well, unread) (omega arith);
      agrees = λ file h. rw held refl;
    }

-- the bytes requested after one more step
pub goes-reads : {table : TableRange} {a b c : CountedState} {old : DynCursorState} → GoesOver table a b old → ReadsUpTo b c (unread_bytes old.cursor) → ReadsUpTo a c (size_of table)
goes-reads g reads = ReadsUpTo-to (ReadsUpTo-then g.reads reads) (let x = reads.at_most in let y = g.account in omega arith)

-- after an entry
module _ {table : TableRange} {a b : CountedState} {old new : DynCursorState} (g : GoesOver table a b old) (s : GivesEntry b.seen.file old new) where
  pub goes-next : {c : CountedState} → ReadsUpTo b c (unread_bytes old.cursor) → c.asked + unread_bytes new.cursor ≤ b.asked + unread_bytes old.cursor → GoesOver table a c new
  goes-next reads account = record {
    same_table = s.gives.same_table ∙ g.same_table;
    not_failed = s.gives.still_not_failed;
    reads = goes-reads g reads;
    account = let y = g.account in omega arith;
    agrees = λ file h. s.gives.agrees file (g.reads.keeps.same_file ∙ h) (g.agrees file h);
  }

  module _ (file : List ℕ) (h : a.seen.file ≡ Some file) where
    pub goes-fewer : entries_left file old ≡ suc (entries_left file new)
    goes-fewer = s.one_less file (g.reads.keeps.same_file ∙ h) (g.agrees file h)

    module _ (rows : table.entry ≡ 16) where
      entry : old.cursor.table.entry ≡ 16
      entry = ap (λ (t : TableRange). t.entry) g.same_table ∙ rows

      pub goes-place : next_row new.cursor ≡ next_row old.cursor + 16
      goes-place = next-place b.seen.file old.cursor new.cursor s.gives entry

      -- its bytes are the file's
      pub goes-row : new.cursor.row ≡ slice file (next_row old.cursor) 16
      goes-row = s.gives.exact file (g.reads.keeps.same_file ∙ h) (g.agrees file h) ∙ ap (slice file (next_row old.cursor)) entry
