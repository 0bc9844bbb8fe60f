-- Each symbol is the file's, and adds its traits to those before it.
use Rattle.std.proofs.Common.{◌≡◌, ℕ, ◌*◌, ap, sym, ◌∙◌, arith}
use Rattle.std.proofs.lemmas.Result.{err_from_is_err_and}
use Rattle.elf_model.specs.Bytes.{slice}
use Rattle.elf_source.proofs.ReadsLaws.{ReadsUpTo-none, ReadsUpTo-then, ReadsUpTo-to}
use Rattle.elf_hash.proofs.ExtentLaws.{row_ended, row_given}
use Rattle.elf_table.specs.Prelude.{TableRange, next_row, row_at, strings_in}
use Rattle.elf_loader.specs.Marks.{symbol_traits_of}
use Rattle.elf_loader.proofs.MarkLaws.{at_is_read, mark_more, mark_none, mark_stops, read_symbol_traits}
use Rattle.elf_table.proofs.CursorLaws.{agrees_none}
use Rattle.elf_loader.proofs.SpendLaws.{account_next, account_start, charges_after, next_is, nothing_ahead, row_place}
use Rattle.elf_loader.proofs.trait_symbols.symbol_traits_of_rows.Goals as goal

pub symbols-init : goal.symbols-init
symbols-init g c =
    let n = c.new-cursor.ensures in
    let ahead = c.new-ahead.ensures in
    let start = account_start c.new-cursor.result c.args.rows c.requires.entry n.failed n.unread n.left in
    record {
      same_table = n.table;
      not_failed = n.failed;
      reads = ReadsUpTo-none c.args.src.now _;
      account = omega (arith, start, ahead.2);
      agrees = λ file held. agrees_none file c.new-cursor.result n.held;
      held = λ file held. nothing_ahead file c.new-ahead.result ahead.0 ahead.1;
      left = λ file held. row_place file c.new-cursor.result c.args.rows _ _ n.table n.index n.left;
    }

pub returns-in_err-advance : goal.returns-in_err-advance
returns-in_err-advance g c =
    let p = err_from_is_err_and c.from_residual.result c.from_residual.ensures.1 in
    let i = c.symbols.invariant in
    let e = c.in_err-advance.ensures in
    let account = i.account in
    rw (p.1, p.2)
    (record {
      costs = charges_after _ i.reads (omega (arith, account)) (record { reads = e.reads; says = e.says i.not_failed });
      known = λ file held. read_symbol_traits _ _ (at_is_read _ _ (e.steps.at_next i.not_failed));
    })

pub returns-in_err-marks : goal.returns-in_err-marks
returns-in_err-marks g c =
    let p = err_from_is_err_and c.from_residual-in_err-marks.result c.from_residual-in_err-marks.ensures.1 in
    let i = c.symbols.invariant in
    let a = c.in_ok-advance.ensures in
    let old = c.symbols.cursor in
    let new = c.advance.new.self in
    let s = row_given c.symbols.src.seen.file old new c.in_ok-advance.field-0 c.if-branch.true a.steps in
    let size : old.table.entry ≡ 24 = ap (λ (t : TableRange). t.entry) i.same_table ∙ c.requires.entry in
    let account = i.account in
    let more = a.account in
    let less = s.one_less in
    let w = c.in_err-marks.ensures in
    rw (p.1, p.2)
    (record {
      costs = charges_after _ (ReadsUpTo-to {k = c.args.rows.count * 88} (ReadsUpTo-then i.reads a.reads) (omega (arith, account, more)))
          (omega (arith, account, more, less)) (record { reads = w.spends.reads; says = w.says });
      known = λ file held.
          let now = i.reads.keeps.same_file ∙ held in
          let later = a.reads.keeps.same_file ∙ now in
          let row = c.row.ensures in
          let place : c.row.result.at ≡ next_row old = row.its_offset ∙ (ap (λ (t : TableRange). row_at t c.row.result.index) s.same_table ∙ ap (row_at old.table) (omega (arith, row.its_index, s.next_index))) in
          let bytes = row.its_bytes ∙ s.exact file now (i.agrees file held) ∙ ap (slice file (next_row old)) size ∙ ap (λ (n : ℕ). slice file n 24) (sym place) in
          let tells = w.tells file later (i.held file held) bytes in
          mark_stops file (strings_in file c.args.names) (next_row old) new.left old.left c.symbols.marks (omega (arith, less)) _ (i.left file held) c.row.result.at place _ tells;
    })

pub symbols-preserved : goal.symbols-preserved
symbols-preserved g c =
    let i = c.symbols.invariant in
    let a = c.in_ok-advance.ensures in
    let old = c.symbols.cursor in
    let new = c.advance.new.self in
    let s = row_given c.symbols.src.seen.file old new c.in_ok-advance.field-0 c.if-branch.true a.steps in
    let size : old.table.entry ≡ 24 = ap (λ (t : TableRange). t.entry) i.same_table ∙ c.requires.entry in
    let account = i.account in
    let more = a.account in
    let less = s.one_less in
    let w = c.in_ok-marks.ensures in
    let spent = w.spends.account in
    let all = account_next _ _ _ _ _ _ _ _ _ _ less more spent account in
    record {
      same_table = s.same_table ∙ i.same_table;
      not_failed = s.still_not_failed;
      reads = ReadsUpTo-to (ReadsUpTo-then (ReadsUpTo-then i.reads a.reads) w.spends.reads) (omega (arith, all));
      account = all;
      agrees = λ file held. s.agrees file (i.reads.keeps.same_file ∙ held) (i.agrees file held);
      held = λ file held. w.agrees file (a.reads.keeps.same_file ∙ (i.reads.keeps.same_file ∙ held)) (i.held file held);
      left = λ file held.
          let now = i.reads.keeps.same_file ∙ held in
          let later = a.reads.keeps.same_file ∙ now in
          let row = c.row.ensures in
          let place : c.row.result.at ≡ next_row old = row.its_offset ∙ (ap (λ (t : TableRange). row_at t c.row.result.index) s.same_table ∙ ap (row_at old.table) (omega (arith, row.its_index, s.next_index))) in
          let bytes = row.its_bytes ∙ s.exact file now (i.agrees file held) ∙ ap (slice file (next_row old)) size ∙ ap (λ (n : ℕ). slice file n 24) (sym place) in
          let tells = w.tells file later (i.held file held) bytes in
          let next = next_is _ old new s size in
          i.left file held ∙ mark_more file (strings_in file c.args.names) (next_row old) new.left old.left c.symbols.marks (omega (arith, less)) c.row.result.at place _ (next_row new) next tells;
    }

pub returns : goal.returns
returns g c =
    let i = c.symbols.invariant in
    let a = c.in_ok-advance.ensures in
    let account = i.account in
    let s = row_ended c.symbols.src.seen.file c.symbols.cursor c.advance.new.self c.in_ok-advance.field-0 c.if-branch.false a.steps in
    record {
      costs = charges_after _ i.reads (omega (arith, account)) (record { reads = a.reads; says = tt });
      known = λ file held. i.left file held ∙ mark_none file (strings_in file c.args.names) _ _ (symbol_traits_of c.symbols.marks) s.none_left;
    }
