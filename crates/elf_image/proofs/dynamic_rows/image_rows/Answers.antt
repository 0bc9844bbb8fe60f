-- One more entry is read, no later one than the table's last, and none with the tag of one before it.
use Rattle.std.proofs.Common.{◌≡◌, ℕ, suc, ◌+◌, ◌/◌, List, Some, sym, ap, subst, ◌∙◌, arith}
use Rattle.elf_model.specs.Checks.{first_refusal}
use Rattle.elf_model.specs.Prelude.{dynamic_count, p_filesz, p_offset}
use Rattle.elf_record.specs.Dyn.{IsDyn}
use Rattle.elf_table.specs.Prelude.{TableRange, next_row, row_at}
use Rattle.elf_table.proofs.LedgerLaws.{CallDid-of}
use Rattle.elf_note.specs.DynCursors.{entries_left}
use Rattle.elf_note.proofs.EntriesLeft.{ended, given}
use Rattle.elf_note.proofs.EntriesLoop.{goes-fewer, goes-next, goes-place, goes-reads, goes-row, goes-start}
use Rattle.elf_image.specs.Located.{found_rows, rows_with}
use Rattle.elf_image.proofs.RowSteps.{RowsSoFar, checked_step, checked_stop, checks_all, checks_left, checks_none, rows_end, rows_start, rows_step}
use Rattle.elf_image.proofs.dynamic_rows.image_rows.Goals as goal

pub entries-init : goal.entries-init
entries-init g c =
    let s = c.dynamic_rows-cursor.ensures in
    let i = s.index in
    let l = s.left in
    let cursor = c.dynamic_rows-cursor.result in
    let here : next_row cursor.cursor ≡ c.args.table.at =
    ap (λ (t : TableRange). row_at t cursor.cursor.index) s.its_table ∙ (ap (row_at c.args.table) i ∙ omega arith) in
    record {
      goes = goes-start _ s;
      all = omega arith;
      few = omega (arith, c.no_rows-rows.ensures.count);
      found = λ file h. rows_start file c.args.table (next_row cursor.cursor) (entries_left file cursor) c.no_rows-rows.result here (s.entries file) c.no_rows-rows.ensures.count c.no_rows-rows.ensures.none;
      checked = λ file h at base whole.
          let all : entries_left file cursor ≡ dynamic_count file (p_offset file at) (p_filesz file at / 16) =
          s.entries file ∙ (ap (λ (place : ℕ). dynamic_count file place c.args.table.count) base ∙ ap (dynamic_count file (p_offset file at)) whole) in
          ap (λ (index : ℕ). first_refusal (checks_left file at (p_offset file at) index (entries_left file cursor))) i
          ∙ (ap (λ (n : ℕ). first_refusal (checks_left file at (p_offset file at) 0 n)) all ∙ checks_all file at);
    }

pub entries-preserved : goal.entries-preserved
entries-preserved g c =
    let l = c.entries in
    let i = l.invariant in
    let a = c.in_ok-advance.ensures in
    let s = given l.src.seen.file l.cursor c.advance.new.self c.in_ok-advance.field-0 c.if-branch.true a.steps in
    let next = s.gives.next_index in
    let less = s.gives.one_less in
    let row = c.row-row.ensures in
    let at : ℕ = next_row l.cursor.cursor in
    let index : c.row-row.result.index ≡ l.cursor.cursor.index = let x = row.its_index in omega (arith, x, next) in
    let offset : c.row-row.result.at ≡ at = row.its_offset ∙ (ap (λ (t : TableRange). row_at t c.row-row.result.index) s.gives.same_table ∙ ap (row_at l.cursor.cursor.table) index) in
    let is_at : (file : List ℕ) → c.args.src.now.seen.file ≡ Some file → IsDyn file at c.entry_in-entry.result =
    λ file h. c.entry_in-entry.ensures file at (row.its_bytes ∙ goes-row i.goes s file h c.requires.rows) in
    let so : (file : List ℕ) → c.args.src.now.seen.file ≡ Some file → RowsSoFar file c.args.table at (suc (entries_left file c.advance.new.self)) l.rows =
    λ file h. subst (λ (n : ℕ). RowsSoFar file c.args.table at n l.rows) (goes-fewer i.goes s file h) (i.found file h) in
    let count : c.with_row-rows.result.count ≡ l.rows.count + 1 = omega (arith, c.with_row-rows.ensures.count, row.its_index, next, i.few) in
    record {
      goes = goes-next i.goes s a.asks.reads a.keeps.account;
      all = omega (arith, i.all, next, less);
      few = omega (arith, count, next, i.few);
      found = λ file h.
          let here = subst (λ (x : ℕ). IsDyn file x c.entry_in-entry.result) (sym offset) (is_at file h) in
          let are = c.with_row-rows.ensures.rows file here ∙ ap (λ (x : ℕ). rows_with file x (found_rows l.rows)) offset in
          rows_step file c.args.table at (entries_left file c.advance.new.self) l.rows (so file h) (next_row c.advance.new.self.cursor) c.with_row-rows.result
          (goes-place i.goes s file h c.requires.rows) count are;
      checked = λ file h place base whole.
          let tag = c.tag_of.ensures file at (is_at file h) in
          let other = rw tag at (sym c.is_repeated.ensures ∙ c.if-is_repeated.false) in
          let step = checked_step file c.args.table at (entries_left file c.advance.new.self) l.rows (so file h) place base whole l.cursor.cursor.index i.few c.advance.new.self.cursor.index next other in
          step ∙ (ap (λ (n : ℕ). first_refusal (checks_left file place (p_offset file place) l.cursor.cursor.index n)) (sym (goes-fewer i.goes s file h)) ∙ i.checked file h place base whole);
    }

pub returns-then-is_repeated-clause-did : goal.returns-then-is_repeated-clause-did
returns-then-is_repeated-clause-did g c =
    let l = c.entries in
    let i = l.invariant in
    let a = c.in_ok-advance.ensures in
    let s = given l.src.seen.file l.cursor c.advance.new.self c.in_ok-advance.field-0 c.if-branch.true a.steps in
    let next = s.gives.next_index in
    let row = c.row-row.ensures in
    let at : ℕ = next_row l.cursor.cursor in
    let index : c.row-row.result.index ≡ l.cursor.cursor.index = let x = row.its_index in omega (arith, x, next) in
    let offset : c.row-row.result.at ≡ at = row.its_offset ∙ (ap (λ (t : TableRange). row_at t c.row-row.result.index) s.gives.same_table ∙ ap (row_at l.cursor.cursor.table) index) in
    rw (c.refused.ensures, offset) (CallDid-of (goes-reads i.goes a.asks.reads) (λ budget. cc) (λ file h place base whole other.
    let is_at = c.entry_in-entry.ensures file at (row.its_bytes ∙ goes-row i.goes s file h c.requires.rows) in
    let tag = c.tag_of.ensures file at is_at in
    let same = rw tag at (sym c.is_repeated.ensures ∙ c.if-is_repeated.true) in
    let so = subst (λ (n : ℕ). RowsSoFar file c.args.table at n l.rows) (goes-fewer i.goes s file h) (i.found file h) in
    sym (i.checked file h place base whole)
    ∙ (ap (λ (n : ℕ). first_refusal (checks_left file place (p_offset file place) l.cursor.cursor.index n)) (goes-fewer i.goes s file h)
    ∙ checked_stop file c.args.table at (entries_left file c.advance.new.self) l.rows so place base whole l.cursor.cursor.index i.few same)))

pub returns-clause-did : goal.returns-clause-did
returns-clause-did g c =
    let l = c.entries in
    let i = l.invariant in
    let a = c.in_ok-advance.ensures in
    CallDid-of (goes-reads i.goes a.asks.reads) tt (λ file h at base whole.
    let none = (ended l.src.seen.file l.cursor c.advance.new.self c.in_ok-advance.field-0 c.if-branch.false a.steps).none_left file in (
      sym (i.checked file h at base whole)
          ∙ (ap (λ (n : ℕ). first_refusal (checks_left file at (p_offset file at) l.cursor.cursor.index n)) none ∙ checks_none file at (p_offset file at) l.cursor.cursor.index),
      rows_end file c.args.table (next_row l.cursor.cursor) (entries_left file l.cursor) l.rows (i.found file h) none at base whole,
    ))
