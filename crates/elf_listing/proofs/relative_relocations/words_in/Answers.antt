-- Each word that the cursor reads is the file's, and its rows are shown after those before it.
use Rattle.elf_options.specs.Permitted.{style_of}
use Rattle.std.specs.Prelude.{IfSome}
use Rattle.std.proofs.Common.{◌≡◌, ℕ, ◌+◌, ◌*◌, ◌^◌, ◌≤◌, List, None, length, refl, sym, ap, ◌∙◌, subst, arith}
use Rattle.elf_model.specs.Prelude.{ListingItem, bitmap_base}
use Rattle.std.proofs.lemmas.Result.{err_from_is_err_and}
use Rattle.elf_note.proofs.HeldLaws.{still_held}
use Rattle.elf_note.proofs.SpendsLaws.{SpendsAtMost-none}
use Rattle.elf_table.proofs.OpenLaws.{still_open}
use Rattle.elf_listing.proofs.Amounts.{asked_begins, asked_last, asked_read, asked_row, count_begins, count_ends, count_fewer, count_given, count_next, count_at_most, part_of}
use Rattle.elf_listing.proofs.ViewedLaws.{still_viewed}
use Rattle.elf_table.specs.Cursors.{unread_bytes}
use Rattle.elf_table.proofs.CursorLaws.{agrees_none}
use Rattle.elf_listing.specs.Prelude.{WroteItems, WroteUntilStop, reading, rows_cost}
use Rattle.elf_listing.specs.RowLayouts.{relr_layout}
use Rattle.elf_listing.proofs.RelativeShown.{given_word, next_base}
use Rattle.elf_listing.proofs.LoopLaws.{given_index, rows_none, rows_unread, account_begins, account_step, account_row, at_most, spent_unread, step_ends, step_gives, step_last, step_more, step_stopped, turn, turn_more, turn_stopped, with_credit}
use Rattle.elf_source.proofs.GrowthLaws.{grows_not, grows_then}
use Rattle.elf_listing.proofs.relative_relocations.words_in.Goals as goal

pub words-init : goal.words-init
unfolding bitmap_base
words-init g c =
    let n = c.word_cursor-cursor.ensures in
    record {
      same_table = n.its_table;
      not_failed = n.failed;
      counted = count_begins n.index n.left;
      keeps = record { same_src = refl; same_out = refl; same_file = refl; same_style = refl };
      spends = SpendsAtMost-none _ _ _ _ (part_of _ _);
      asked = asked_begins _ _ (account_begins (reading c.word_cursor-cursor.result) c.args.table (relr_layout c.args.section) None c.args.listing.now.style.cap.bytes c.requires.table.entry n.failed n.unread n.left);
      agrees = λ file held. agrees_none file (reading c.word_cursor-cursor.result) n.held;
      listed = λ file held. count_begins n.index (n.rows file);
      grows = grows_not _;
      text = λ file held of_kind. rows_none _ _ _ n.index;
      based = λ file held of_kind. rw n.index refl;
      few = tt;
    }

pub returns-in_err-advance : goal.returns-in_err-advance
returns-in_err-advance g c = record {
  grows = c.words.invariant.grows;
  keeps = record {
    same_src = c.words.invariant.keeps.same_src;
    same_out = c.words.invariant.keeps.same_out;
    same_file = c.words.invariant.keeps.same_file;
    same_style = c.words.invariant.keeps.same_style;
  };
  spent =
      let p = err_from_is_err_and c.from_residual.result c.from_residual.ensures.1 in
      let known = c.words.invariant in
      let e = c.in_err-advance.ensures in
      rw (p.1, p.2) (spent_unread _ _ _ _ _ _ _ _ _ _ (asked_read _ _ _ known.asked) known.spends e.reads (e.says known.not_failed));
  shows = λ file held of_kind.
      let p = err_from_is_err_and c.from_residual.result c.from_residual.ensures.1 in
      let known = c.words.invariant in
      rw (p.1, p.2) (rows_unread ((relr_layout c.args.section).items None file (style_of c.args.listing.now.style) c.args.table.at) (reading c.words.cursor).index _ _ _ _ _ (count_at_most _ (known.listed file held)) (c.in_err-advance.ensures.steps.at_next known.not_failed) (known.text file held of_kind));
}

pub returns-in_err-word_rows : goal.returns-in_err-word_rows
returns-in_err-word_rows g c =
    let known = c.words.invariant in
    let p = err_from_is_err_and c.from_residual-in_err-word_rows.result c.from_residual-in_err-word_rows.ensures.1 in
    let a = c.in_ok-advance.ensures in
    let old = c.words.cursor in
    let new = c.advance.new.self in
    let step = step_gives {old = old} {new = new} _ c.if-branch.true a.steps in
    let kind = relr_layout c.args.section in
    let versions = None in
    let row = c.in_err-word_rows.ensures in
    let lists = row.keeps in
    record {
      grows = grows_then known.grows row.grows;
      keeps = record {
        same_src = lists.same_src ∙ known.keeps.same_src;
        same_out = lists.same_out ∙ known.keeps.same_out;
        same_file = lists.same_file ∙ known.keeps.same_file;
        same_style = lists.same_style ∙ known.keeps.same_style;
      };
      spent =
          let own = kind.own_cost versions c.args.listing.now.style.cap.bytes in
          let credit = c.words.listing.ahead.credit in
          let account = with_credit (unread_bytes (reading old)) (unread_bytes (reading new)) c.words.listing.src.now.asked c.advance.new.src.asked credit a.account in
          let within = account_row (reading old) (reading new) _ (c.advance.new.src.asked + credit) own _ step.gives.one_less account known.asked in
          rw (p.1, p.2) (step_stopped _ _ _ _ _ _ _ _ _ _ _ _ own _ (ap (λ s. kind.own_cost versions s.cap.bytes) known.keeps.same_style) within known.spends a.reads row.spent);
      shows = λ file held of_kind.
          let now = known.spends.reads.keeps.same_file ∙ held in
          let style = c.args.listing.now.style in
          let this = turn file style kind versions c.args.table old new c.row-row.result _ _ step c.row-row.ensures now (known.agrees file held) known.same_table c.requires.table.entry known.counted (known.listed file held) of_kind (known.text file held of_kind) in
          rw (p.1, p.2)
          (turn_stopped file style c.words.listing.style kind versions c.args.table old new c.row-row.result _ _ _ _ known.keeps.same_style this (λ here is_row.
          let given = given_word file c.args.table.at c.row-row.result.at c.row-row.result.index (reading old).index c.u64_at.result c.words.base c.row-row.result.bytes.now is_row.here is_row.bytes c.u64_at.ensures this.index (known.based file held of_kind) (style_of c.words.listing.style) c.args.section in
          subst (λ (items : List ListingItem). WroteUntilStop c.words.listing.out.now c.word_rows.new.listing.out.now c.in_err-word_rows.field-0.0 items) (sym given) (row.shows file (a.reads.keeps.same_file ∙ now))));
    }

pub words-preserved : goal.words-preserved
words-preserved g c =
    let known = c.words.invariant in
    let a = c.in_ok-advance.ensures in
    let old = c.words.cursor in
    let new = c.advance.new.self in
    let step = step_gives {old = old} {new = new} _ c.if-branch.true a.steps in
    let gives = step.gives in
    let kind = relr_layout c.args.section in
    let versions = None in
    let row = c.in_ok-word_rows.ensures in
    let lists = row.keeps in
    let asks = row.spent.0 in
    let own = kind.own_cost versions c.args.listing.now.style.cap.bytes in
    let credit = c.words.listing.ahead.credit in
    let later = c.word_rows.new.listing.src.now.asked + c.word_rows.new.listing.ahead.credit in
    let bound = c.args.listing.now.src.now.asked + (c.args.listing.now.ahead.credit + rows_cost kind versions c.args.table c.args.listing.now.style.cap.bytes) in
    let most = asks.account in
    let account = with_credit (unread_bytes (reading old)) (unread_bytes (reading new)) c.words.listing.src.now.asked c.advance.new.src.asked credit a.account in
    let asked = account_step (reading old) (reading new) _ (c.advance.new.src.asked + credit) later own bound gives.one_less account (asked_row _ _ _ most) known.asked in
    record {
      same_table = gives.same_table ∙ known.same_table;
      not_failed = gives.still_not_failed;
      counted = count_next _ _ _ known.counted gives.one_less gives.next_index;
      keeps = record {
        same_src = lists.same_src ∙ known.keeps.same_src;
        same_out = lists.same_out ∙ known.keeps.same_out;
        same_file = lists.same_file ∙ known.keeps.same_file;
        same_style = lists.same_style ∙ known.keeps.same_style;
      };
      spends = step_more known.spends a.reads asks (at_most _ _ _ asked);
      asked = asked;
      agrees = λ file held. gives.agrees file (known.spends.reads.keeps.same_file ∙ held) (known.agrees file held);
      listed = λ file held.
          let less = step.one_less file (known.spends.reads.keeps.same_file ∙ held) (known.agrees file held) in
          count_given _ _ _ (known.listed file held) less gives.next_index;
      grows = grows_then known.grows row.grows;
      text = λ file held of_kind.
          let now = known.spends.reads.keeps.same_file ∙ held in
          let style = c.args.listing.now.style in
          let this = turn file style kind versions c.args.table old new c.row-row.result _ _ step c.row-row.ensures now (known.agrees file held) known.same_table c.requires.table.entry known.counted (known.listed file held) of_kind (known.text file held of_kind) in
          turn_more file style c.words.listing.style kind versions c.args.table old new c.row-row.result _ _ _ known.keeps.same_style this (λ here is_row.
          let given = given_word file c.args.table.at c.row-row.result.at c.row-row.result.index (reading old).index c.u64_at.result c.words.base c.row-row.result.bytes.now is_row.here is_row.bytes c.u64_at.ensures this.index (known.based file held of_kind) (style_of c.words.listing.style) c.args.section in
          subst (λ (items : List ListingItem). WroteItems c.words.listing.out.now c.word_rows.new.listing.out.now items) (sym given) (row.shows file (a.reads.keeps.same_file ∙ now)));
      based = λ file held of_kind.
          let now = known.spends.reads.keeps.same_file ∙ held in
          let style = c.args.listing.now.style in
          let this = turn file style kind versions c.args.table old new c.row-row.result _ _ step c.row-row.ensures now (known.agrees file held) known.same_table c.requires.table.entry known.counted (known.listed file held) of_kind (known.text file held of_kind) in
          let is_row = this.is_row in
          c.base_after-next.ensures.value
          ∙ next_base file c.args.table.at c.row-row.result.at c.row-row.result.index (reading old).index c.u64_at.result c.words.base c.row-row.result.bytes.now is_row.here is_row.bytes c.u64_at.ensures this.index (known.based file held of_kind) (reading new).index gives.next_index;
      few =
          let index = given_index gives c.row-row.ensures in
          let next : c.row-row.result.index + 1 ≡ (reading new).index = omega (arith, index, gives.next_index) in
          subst (λ (n : ℕ). IfSome c.base_after-next.result (λ address. address ≤ 2 ^ 64 + 504 * n)) next c.base_after-next.ensures.next;
    }

pub returns : goal.returns
returns g c =
    let known = c.words.invariant in
    let a = c.in_ok-advance.ensures in
    record {
      grows = known.grows;
      keeps = record { same_src = known.keeps.same_src; same_out = known.keeps.same_out; same_file = known.keeps.same_file; same_style = known.keeps.same_style };
      spent = let account = a.account in (step_last known.spends a.reads (asked_last _ _ _ _ _ _ known.asked account), tt);
      shows = λ file held of_kind.
          let ends = step_ends _ {old = c.words.cursor} _ c.if-branch.false a.steps in
          let all : (reading c.words.cursor).index ≡ (relr_layout c.args.section).listed file c.args.table = count_ends (known.listed file held) (ends.none_left file) in
          rw (← all) (known.text file held of_kind);
    }

pub invariant_of-listing : goal.invariant_of-listing
invariant_of-listing g c = record {
  loaded = still_open _ _ c.advance.ensures.reads c.words.listing.loaded;
  viewed = still_viewed _ _ c.advance.ensures.reads c.words.listing.viewed;
  held = still_held _ c.advance.ensures.reads c.words.listing.held;
}

pub advance-requires : goal.advance-requires
advance-requires g c = let known = c.words.invariant in rw (known.same_table, known.spends.reads.keeps.same_size) c.requires.table.rows

pub row-row-requires : goal.row-row-requires
row-row-requires g c =
    let step = step_gives {old = c.words.cursor} {new = c.advance.new.self} _ c.if-branch.true c.in_ok-advance.ensures.steps in
    let next = step.gives.next_index in omega (arith, next)

pub u64_at-requires : goal.u64_at-requires
u64_at-requires g c =
    let known = c.words.invariant in
    let gives = (step_gives {old = c.words.cursor} {new = c.advance.new.self} _ c.if-branch.true c.in_ok-advance.ensures.steps).gives in
    let whole : length c.row-row.result.bytes.now ≡ 8 = ap length c.row-row.ensures.its_bytes ∙ (gives.whole ∙ (ap (λ t. t.entry) known.same_table ∙ c.requires.table.entry)) in
    omega (arith, whole)

pub base_after-next-requires : goal.base_after-next-requires
base_after-next-requires g c =
    let gives = (step_gives {old = c.words.cursor} {new = c.advance.new.self} _ c.if-branch.true c.in_ok-advance.ensures.steps).gives in
    subst (λ (n : ℕ). IfSome c.words.base (λ address. address ≤ 2 ^ 64 + 504 * n)) (sym (given_index gives c.row-row.ensures)) c.words.invariant.few

pub word_rows-requires-clause-format : goal.word_rows-requires-clause-format
word_rows-requires-clause-format g c = rw c.words.invariant.keeps.same_style c.requires.format

pub word_rows-requires-clause-rows : goal.word_rows-requires-clause-rows
word_rows-requires-clause-rows g c = rw c.words.invariant.keeps.same_style c.requires.rows

pub word_rows-requires-clause-base : goal.word_rows-requires-clause-base
word_rows-requires-clause-base g c = c.base_after-next.ensures.few

pub words-smaller : goal.words-smaller
words-smaller g c =
    let step = step_gives {old = c.words.cursor} {new = c.advance.new.self} _ c.if-branch.true c.in_ok-advance.ensures.steps in
    count_fewer step.gives.one_less
