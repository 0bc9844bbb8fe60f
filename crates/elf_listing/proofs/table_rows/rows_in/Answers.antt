-- Each row that the cursor reads is the file's, and is shown after those before it.
use Rattle.elf_options.specs.Permitted.{style_of}
use Rattle.std.proofs.Common.{◌≡◌, ◌+◌, length, refl, ap, ◌∙◌, arith}
use Rattle.std.proofs.lemmas.Result.{err_from_is_err_and}
use Rattle.elf_note.proofs.HeldLaws.{still_held}
use Rattle.elf_note.proofs.SpendsLaws.{SpendsAtMost-none}
use Rattle.elf_table.proofs.OpenLaws.{still_open}
use Rattle.elf_listing.proofs.Amounts.{asked_begins, asked_last, asked_read, asked_row, count_begins, count_ends, count_fewer, count_given, count_next, count_at_most, part_of}
use Rattle.elf_listing.proofs.ViewedLaws.{still_viewed}
use Rattle.elf_table.specs.Cursors.{unread_bytes}
use Rattle.elf_table.proofs.CursorLaws.{agrees_none}
use Rattle.elf_listing.specs.Prelude.{reading, rows_cost}
use Rattle.elf_listing.proofs.LoopLaws.{rows_none, rows_unread, account_begins, account_step, account_row, at_most, spent_unread, step_ends, step_gives, step_last, step_more, step_stopped, turn, turn_more, turn_stopped, with_credit}
use Rattle.elf_source.proofs.GrowthLaws.{grows_not, grows_then}
use Rattle.elf_listing.proofs.table_rows.rows_in.Goals as goal

pub rows-init : goal.rows-init
rows-init g c =
    let n = c.cursor-cursor.ensures in
    record {
      same_table = n.its_table;
      not_failed = n.failed;
      counted = count_begins n.index n.left;
      lookup = refl;
      keeps = record { same_src = refl; same_out = refl; same_file = refl; same_style = refl };
      spends = SpendsAtMost-none _ _ _ _ (part_of _ _);
      asked = asked_begins _ _ (account_begins (reading c.cursor-cursor.result) c.args.table (g.K.TableRows.layout c.args.rows.now) (g.V.NameVersions.lookup c.args.versions.now) c.args.listing.now.style.cap.bytes c.requires.table.entry n.failed n.unread n.left);
      agrees = λ file held. agrees_none file (reading c.cursor-cursor.result) n.held;
      listed = λ file held. count_begins n.index (n.rows file);
      grows = grows_not _;
      text = λ file held of_kind. rows_none _ _ _ n.index;
    }

pub returns-in_err-advance : goal.returns-in_err-advance
returns-in_err-advance g c = record {
  grows = c.rows.invariant.grows;
  keeps = record {
    same_src = c.rows.invariant.keeps.same_src;
    same_out = c.rows.invariant.keeps.same_out;
    same_file = c.rows.invariant.keeps.same_file;
    same_style = c.rows.invariant.keeps.same_style;
  };
  spent =
      let p = err_from_is_err_and c.from_residual.result c.from_residual.ensures.1 in
      let known = c.rows.invariant in
      let e = c.in_err-advance.ensures in
      rw (p.1, p.2) (spent_unread _ _ _ _ _ _ _ _ _ _ (asked_read _ _ _ known.asked) known.spends e.reads (e.says known.not_failed));
  shows = λ file held of_kind.
      let p = err_from_is_err_and c.from_residual.result c.from_residual.ensures.1 in
      let known = c.rows.invariant in
      rw (p.1, p.2) (rows_unread ((g.K.TableRows.layout c.args.rows.now).items (g.V.NameVersions.lookup c.args.versions.now) file (style_of c.args.listing.now.style) c.args.table.at) (reading c.rows.cursor).index _ _ _ _ _ (count_at_most _ (known.listed file held)) (c.in_err-advance.ensures.steps.at_next known.not_failed) (known.text file held of_kind));
}

pub returns-in_err-row : goal.returns-in_err-row
returns-in_err-row g c =
    let known = c.rows.invariant in
    let p = err_from_is_err_and c.from_residual-in_err-row.result c.from_residual-in_err-row.ensures.1 in
    let a = c.in_ok-advance.ensures in
    let old = c.rows.cursor in
    let new = c.advance.new.self in
    let step = step_gives {old = old} {new = new} _ c.if-branch.true a.steps in
    let kind = g.K.TableRows.layout c.args.rows.now in
    let versions = g.V.NameVersions.lookup c.args.versions.now in
    let row = rw known.lookup at c.in_err-row.ensures.lists in
    let lists = row.keeps in
    record {
      grows = grows_then known.grows row.grows;
      keeps = record {
        same_src = lists.same_src ∙ known.keeps.same_src;
        same_out = lists.same_out ∙ known.keeps.same_out;
        same_file = lists.same_file ∙ known.keeps.same_file;
        same_style = lists.same_style ∙ known.keeps.same_style;
      };
      spent =
          let own = kind.own_cost versions c.args.listing.now.style.cap.bytes in
          let credit = c.rows.listing.ahead.credit in
          let account = with_credit (unread_bytes (reading old)) (unread_bytes (reading new)) c.rows.listing.src.now.asked c.advance.new.src.asked credit a.account in
          let within = account_row (reading old) (reading new) _ (c.advance.new.src.asked + credit) own _ step.gives.one_less account known.asked in
          rw (p.1, p.2) (step_stopped _ _ _ _ _ _ _ _ _ _ _ _ own _ (ap (λ s. kind.own_cost versions s.cap.bytes) known.keeps.same_style) within known.spends a.reads row.spent);
      shows = λ file held of_kind.
          let now = known.spends.reads.keeps.same_file ∙ held in
          let style = c.args.listing.now.style in
          let this = turn file style kind versions c.args.table old new c.row.result _ _ step c.row.ensures now (known.agrees file held) known.same_table c.requires.table.entry known.counted (known.listed file held) of_kind (known.text file held of_kind) in
          rw (p.1, p.2)
          (turn_stopped file style c.rows.listing.style kind versions c.args.table old new c.row.result _ _ _ _ known.keeps.same_style this (row.shows file (a.reads.keeps.same_file ∙ now) c.args.table.at));
    }

pub rows-preserved : goal.rows-preserved
rows-preserved g c =
    let known = c.rows.invariant in
    let a = c.in_ok-advance.ensures in
    let old = c.rows.cursor in
    let new = c.advance.new.self in
    let step = step_gives {old = old} {new = new} _ c.if-branch.true a.steps in
    let gives = step.gives in
    let kind = g.K.TableRows.layout c.args.rows.now in
    let versions = g.V.NameVersions.lookup c.args.versions.now in
    let row = rw known.lookup at c.in_ok-row.ensures.lists in
    let lists = row.keeps in
    let asks = row.spent.0 in
    let own = kind.own_cost versions c.args.listing.now.style.cap.bytes in
    let credit = c.rows.listing.ahead.credit in
    let later = c.row-in-rows.new.listing.src.now.asked + c.row-in-rows.new.listing.ahead.credit in
    let bound = c.args.listing.now.src.now.asked + (c.args.listing.now.ahead.credit + rows_cost kind versions c.args.table c.args.listing.now.style.cap.bytes) in
    let most = rw known.keeps.same_style at asks.account in
    let account = with_credit (unread_bytes (reading old)) (unread_bytes (reading new)) c.rows.listing.src.now.asked c.advance.new.src.asked credit a.account in
    let asked = account_step (reading old) (reading new) _ (c.advance.new.src.asked + credit) later own bound gives.one_less account (asked_row _ _ _ most) known.asked in
    record {
      same_table = gives.same_table ∙ known.same_table;
      not_failed = gives.still_not_failed;
      counted = count_next _ _ _ known.counted gives.one_less gives.next_index;
      lookup = c.in_ok-row.ensures.keeps ∙ known.lookup;
      keeps = record {
        same_src = lists.same_src ∙ known.keeps.same_src;
        same_out = lists.same_out ∙ known.keeps.same_out;
        same_file = lists.same_file ∙ known.keeps.same_file;
        same_style = lists.same_style ∙ known.keeps.same_style;
      };
      spends = step_more known.spends a.reads asks (at_most _ _ _ asked);
      asked = asked;
      agrees = λ file held. gives.agrees file (known.spends.reads.keeps.same_file ∙ held) (known.agrees file held);
      listed = λ file held.
          let less = step.one_less file (known.spends.reads.keeps.same_file ∙ held) (known.agrees file held) in
          count_given _ _ _ (known.listed file held) less gives.next_index;
      grows = grows_then known.grows row.grows;
      text = λ file held of_kind.
          let now = known.spends.reads.keeps.same_file ∙ held in
          let style = c.args.listing.now.style in
          let this = turn file style kind versions c.args.table old new c.row.result _ _ step c.row.ensures now (known.agrees file held) known.same_table c.requires.table.entry known.counted (known.listed file held) of_kind (known.text file held of_kind) in
          turn_more file style c.rows.listing.style kind versions c.args.table old new c.row.result _ _ _ known.keeps.same_style this (row.shows file (a.reads.keeps.same_file ∙ now) c.args.table.at);
    }

pub returns : goal.returns
returns g c =
    let known = c.rows.invariant in
    let a = c.in_ok-advance.ensures in
    record {
      grows = known.grows;
      keeps = record { same_src = known.keeps.same_src; same_out = known.keeps.same_out; same_file = known.keeps.same_file; same_style = known.keeps.same_style };
      spent = let account = a.account in (step_last known.spends a.reads (asked_last _ _ _ _ _ _ known.asked account), tt);
      shows = λ file held of_kind.
          let ends = step_ends _ {old = c.rows.cursor} _ c.if-branch.false a.steps in
          let all : (reading c.rows.cursor).index ≡ (g.K.TableRows.layout c.args.rows.now).listed file c.args.table = count_ends (known.listed file held) (ends.none_left file) in
          rw (← all) (known.text file held of_kind);
    }

pub invariant_of-listing : goal.invariant_of-listing
invariant_of-listing g c = record {
  loaded = still_open _ _ c.advance.ensures.reads c.rows.listing.loaded;
  viewed = still_viewed _ _ c.advance.ensures.reads c.rows.listing.viewed;
  held = still_held _ c.advance.ensures.reads c.rows.listing.held;
}

pub advance-requires : goal.advance-requires
advance-requires g c = let known = c.rows.invariant in rw (known.same_table, known.spends.reads.keeps.same_size) c.requires.table.rows

pub row-requires : goal.row-requires
row-requires g c =
    let step = step_gives {old = c.rows.cursor} {new = c.advance.new.self} _ c.if-branch.true c.in_ok-advance.ensures.steps in
    let next = step.gives.next_index in omega (arith, next)

pub row-requires-in-rows-clause-format : goal.row-requires-in-rows-clause-format
row-requires-in-rows-clause-format g c = rw c.rows.invariant.keeps.same_style c.requires.format

pub row-requires-in-rows-clause-rows : goal.row-requires-in-rows-clause-rows
row-requires-in-rows-clause-rows g c = rw c.rows.invariant.keeps.same_style c.requires.rows

pub row-requires-in-rows-clause-row : goal.row-requires-in-rows-clause-row
row-requires-in-rows-clause-row g c =
    let known = c.rows.invariant in
    let a = c.in_ok-advance.ensures in
    let gives = (step_gives {old = c.rows.cursor} {new = c.advance.new.self} _ c.if-branch.true a.steps).gives in
    let lends = c.row.ensures in
    record {
      whole = ap length lends.its_bytes ∙ (gives.whole ∙ (ap (λ t. t.entry) known.same_table ∙ c.requires.table.entry));
      within = rw (known.lookup, a.reads.keeps.same_size, known.spends.reads.keeps.same_size) c.requires.table.names;
      fits = c.requires.table.fits _ (omega (arith, lends.its_index, gives.next_index, gives.one_less, known.counted));
    }

pub rows-smaller : goal.rows-smaller
rows-smaller g c =
    let step = step_gives {old = c.rows.cursor} {new = c.advance.new.self} _ c.if-branch.true c.in_ok-advance.ensures.steps in
    count_fewer step.gives.one_less
