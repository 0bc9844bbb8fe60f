-- Each entry is the file's, and what it gives is stored after what those before it did.
use Rattle.std.proofs.Common.{◌≡◌, ℕ, ◌+◌, ◌*◌, ap, sym, ◌∙◌, arith}
use Rattle.std.proofs.lemmas.Result.{err_from_is_err_and}
use Rattle.elf_model.specs.Bytes.{slice}
use Rattle.elf_source.proofs.ReadsLaws.{ReadsUpTo-none, ReadsUpTo-then, ReadsUpTo-to}
use Rattle.elf_note.proofs.EntriesLeft.{ended, given, next-place}
use Rattle.elf_table.proofs.CursorLaws.{agrees_none}
use Rattle.elf_table.specs.Prelude.{TableRange, next_row, row_at, size_of}
use Rattle.elf_library.proofs.LoopLaws.{account_next, account_start, at_is_read, charges_after, link_more, link_stops, links_end, links_start, read_links_stop}
use Rattle.elf_library.proofs.entries.list_link_info.Goals as goal

pub entries-init : goal.entries-init
entries-init g c =
    let n = c.dynamic_rows-cursor.ensures in
    record {
      same_table = n.its_table;
      not_failed = n.not_failed;
      reads = ReadsUpTo-none c.args.src.now _;
      account = let start = account_start c.dynamic_rows-cursor.result.cursor c.args.table n.not_failed n.unread n.left in omega (arith, start);
      agrees = λ file held. agrees_none file c.dynamic_rows-cursor.result.cursor n.held;
      left = λ file held views. links_start file _ _ c.args.table c.dynamic_rows-cursor.result n c.args.store.now _ c.no_link_info-links.ensures;
    }

pub returns-in_err-advance : goal.returns-in_err-advance
returns-in_err-advance g c =
    let p = err_from_is_err_and c.from_residual.result c.from_residual.ensures.1 in
    let i = c.entries.invariant in
    let e = c.in_err-advance.ensures in
    let account = i.account in
    rw (p.1, p.2)
    (record {
      costs = charges_after _ i.reads (omega (arith, account)) (record { reads = e.asks.reads; says = e.asks.says i.not_failed });
      known = λ file held views. read_links_stop _ c.args.store.now c.entries.store _ (at_is_read _ _ (e.steps.fails.at_next i.not_failed));
    })

pub advance-requires : goal.advance-requires
advance-requires g c =
    let i = c.entries.invariant in
    let size = i.reads.keeps.same_size in
    rw (i.same_table, size) c.requires.within

pub with_entry-requires : goal.with_entry-requires
with_entry-requires g c =
    let i = c.entries.invariant in
    c.requires.size ∙ sym (c.in_ok-advance.ensures.asks.reads.keeps.same_size ∙ i.reads.keeps.same_size)

pub returns-in_err-links : goal.returns-in_err-links
returns-in_err-links g c =
    let p = err_from_is_err_and c.from_residual-in_err-links.result c.from_residual-in_err-links.ensures.1 in
    let i = c.entries.invariant in
    let a = c.in_ok-advance.ensures in
    let old = c.entries.cursor in
    let new = c.advance.new.self in
    let s = given c.entries.src.seen.file old new c.in_ok-advance.field-0 c.if-branch.true a.steps in
    let size : old.cursor.table.entry ≡ 16 = ap (λ (t : TableRange). t.entry) i.same_table ∙ c.requires.rows in
    let account = i.account in
    let more = a.keeps.account in
    let less = s.gives.one_less in
    let w = c.in_err-links.ensures in
    rw (p.1, p.2)
    (record {
      costs = charges_after _ (ReadsUpTo-to {k = size_of c.args.table + c.args.table.count * 4160} (ReadsUpTo-then i.reads a.asks.reads) (omega (arith, account, more)))
          (omega (arith, account, more, less)) w.costs;
      known = λ file held views.
          let now = i.reads.keeps.same_file ∙ held in
          let later = a.asks.reads.keeps.same_file ∙ now in
          let row = c.row-row.ensures in
          let place : c.row-row.result.at ≡ next_row old.cursor = row.its_offset ∙ (ap (λ (t : TableRange). row_at t c.row-row.result.index) s.gives.same_table ∙ ap (row_at old.cursor.table) (omega (arith, row.its_index, s.gives.next_index))) in
          let bytes = row.its_bytes ∙ s.gives.exact file now (i.agrees file held) ∙ ap (slice file (next_row old.cursor)) size ∙ ap (λ (n : ℕ). slice file n 16) (sym place) in
          let dyn = c.entry_in-entry.ensures file c.row-row.result.at bytes in
          let l = i.left file held views in
          link_stops file _ _ _ (next_row old.cursor) _ _ _ _ l _ (s.one_less file now (i.agrees file held)) c.row-row.result.at place c.with_entry.new.store _ (w.known file later views dyn _ l.state l.keeps);
    })

pub entries-preserved : goal.entries-preserved
entries-preserved g c =
    let i = c.entries.invariant in
    let a = c.in_ok-advance.ensures in
    let old = c.entries.cursor in
    let new = c.advance.new.self in
    let s = given c.entries.src.seen.file old new c.in_ok-advance.field-0 c.if-branch.true a.steps in
    let size : old.cursor.table.entry ≡ 16 = ap (λ (t : TableRange). t.entry) i.same_table ∙ c.requires.rows in
    let w = c.in_ok-links.ensures in
    let spent = w.costs.reads.at_most in
    let all = account_next _ _ _ _ _ _ _ _ s.gives.one_less a.keeps.account spent i.account in
    record {
      same_table = s.gives.same_table ∙ i.same_table;
      not_failed = s.gives.still_not_failed;
      reads = ReadsUpTo-to (ReadsUpTo-then (ReadsUpTo-then i.reads a.asks.reads) w.costs.reads) (omega (arith, all));
      account = all;
      agrees = λ file held. s.gives.agrees file (i.reads.keeps.same_file ∙ held) (i.agrees file held);
      left = λ file held views.
          let now = i.reads.keeps.same_file ∙ held in
          let later = a.asks.reads.keeps.same_file ∙ now in
          let row = c.row-row.ensures in
          let place : c.row-row.result.at ≡ next_row old.cursor = row.its_offset ∙ (ap (λ (t : TableRange). row_at t c.row-row.result.index) s.gives.same_table ∙ ap (row_at old.cursor.table) (omega (arith, row.its_index, s.gives.next_index))) in
          let bytes = row.its_bytes ∙ s.gives.exact file now (i.agrees file held) ∙ ap (slice file (next_row old.cursor)) size ∙ ap (λ (n : ℕ). slice file n 16) (sym place) in
          let dyn = c.entry_in-entry.ensures file c.row-row.result.at bytes in
          let next = next-place c.entries.src.seen.file old.cursor new.cursor s.gives size in
          let l = i.left file held views in
          link_more file _ _ _ (next_row old.cursor) _ _ _ _ l _ (s.one_less file now (i.agrees file held)) c.row-row.result.at place (next_row new.cursor) next _ _ (w.known file later views dyn _ l.state l.keeps);
    }

pub returns : goal.returns
returns g c =
    let i = c.entries.invariant in
    let a = c.in_ok-advance.ensures in
    let account = i.account in
    let s = ended c.entries.src.seen.file c.entries.cursor c.advance.new.self c.in_ok-advance.field-0 c.if-branch.false a.steps in
    record {
      costs = charges_after _ i.reads (omega (arith, account)) (record { reads = a.asks.reads; says = tt });
      known = λ file held views. links_end file _ _ _ _ _ _ _ _ (i.left file held views) (s.none_left file);
    }
