-- Each note that the cursor reads is the file's, and is shown after those before it.
use Rattle.std.proofs.Common.{◌+◌, refl, ap, sym, ◌∙◌, arith}
use Rattle.std.proofs.lemmas.Result.{err_from_is_err_and}
use Rattle.elf_options.specs.Permitted.{style_of}
use Rattle.elf_model.specs.Prelude.{note_align, slice}
use Rattle.elf_note.proofs.HeldLaws.{still_held}
use Rattle.elf_note.proofs.SpendsLaws.{SpendsAtMost-none}
use Rattle.elf_table.proofs.OpenLaws.{still_open}
use Rattle.elf_listing.proofs.Amounts.{part_of}
use Rattle.elf_listing.proofs.LoopLaws.{account_kept, at_most, spent_unread, step_last, step_more, step_stopped}
use Rattle.elf_listing.proofs.ViewedLaws.{still_viewed}
use Rattle.elf_note.specs.NoteCursors.{notes_from, notes_left}
use Rattle.elf_listing.specs.Notes.{note_items}
use Rattle.elf_listing.proofs.NotesShown.{all_left, before_all, before_fault, before_none, note_given, note_more, note_stopped, table_rows}
use Rattle.elf_source.proofs.GrowthLaws.{grows_not, grows_then}
use Rattle.elf_listing.proofs.listing.Listing.notes.Goals as goal

pub notes-init : goal.notes-init
notes-init g c =
    let n = c.new-cursor.ensures in
    let unread = ap (λ w. w.unread) n.ahead in
    record {
      same_table = n.its_table;
      same_align = n.its_align;
      not_failed = n.not_failed;
      keeps = record { same_src = refl; same_out = refl; same_file = refl; same_style = refl };
      spends = SpendsAtMost-none _ _ _ _ (part_of _ _);
      asked = omega (arith, unread);
      agrees = λ file held. rw n.ahead refl;
      grows = grows_not _;
      text = λ file held.
          let align = note_align c.args.align in
          let style = style_of c.args.self.now.style in
          let all = all_left align file c.new-cursor.result.ahead c.args.table.at c.args.table.count 4096 n.ahead in
          before_all _ _ _ (sym (ap (note_items style c.args.index align c.new-cursor.result.ahead.at) all ∙ ap (λ place. note_items style c.args.index align place (notes_from align c.args.table.at (slice file c.args.table.at c.args.table.count))) (ap (λ w. w.at) n.ahead) ∙ table_rows style align c.args.index c.args.table.at (slice file c.args.table.at c.args.table.count)));
    }

pub returns-in_err-advance : goal.returns-in_err-advance
returns-in_err-advance g c = record {
  grows = c.notes.invariant.grows;
  keeps = record {
    same_src = c.notes.invariant.keeps.same_src;
    same_out = c.notes.invariant.keeps.same_out;
    same_file = c.notes.invariant.keeps.same_file;
    same_style = c.notes.invariant.keeps.same_style;
  };
  spent =
      let p = err_from_is_err_and c.from_residual.result c.from_residual.ensures.1 in
      let known = c.notes.invariant in
      let asks = c.in_err-advance.ensures.asks in
      rw (p.1, p.2) (spent_unread _ _ _ _ _ _ _ _ _ _ known.asked known.spends asks.reads (asks.says known.not_failed));
  shows = λ file held.
      let p = err_from_is_err_and c.from_residual.result c.from_residual.ensures.1 in
      let known = c.notes.invariant in
      let now = known.spends.reads.keeps.same_file ∙ held in
      let step = c.in_err-advance.ensures.steps in
      let tells = rw known.same_align at (step.tells file now (known.agrees file held) known.not_failed) in
      rw (p.1, p.2) (before_fault _ _ _ (style_of c.args.self.now.style) c.args.index (note_align c.args.align) c.notes.cursor.ahead.at _ _ _ (step.leaves.1 known.not_failed) tells (known.text file held));
}

pub returns-in_err-note_row : goal.returns-in_err-note_row
returns-in_err-note_row g c =
    let known = c.notes.invariant in
    let p = err_from_is_err_and c.from_residual-in_err-note_row.result c.from_residual-in_err-note_row.ensures.1 in
    let a = c.in_ok-advance.ensures in
    let old = c.notes.cursor in
    let new = c.advance.new.self in
    let row = c.in_err-note_row.ensures in
    let lists = row.keeps in
    record {
      grows = grows_then known.grows row.grows;
      keeps = record {
        same_src = lists.same_src ∙ known.keeps.same_src;
        same_out = lists.same_out ∙ known.keeps.same_out;
        same_file = lists.same_file ∙ known.keeps.same_file;
        same_style = lists.same_style ∙ known.keeps.same_style;
      };
      spent =
          let credit = c.notes.self.ahead.credit in
          let within = account_kept old.ahead.unread new.ahead.unread c.notes.self.src.now.asked c.advance.new.src.asked credit (c.advance.new.src.asked + (credit + 0)) _ a.keeps.moves.account (omega arith) known.asked in
          rw (p.1, p.2) (step_stopped _ _ _ _ _ _ _ _ _ _ _ _ 0 _ refl (omega (arith, within)) known.spends a.asks.reads row.spent);
      shows = λ file held.
          let now = known.spends.reads.keeps.same_file ∙ held in
          let align = note_align c.args.align in
          let step = note_given _ align c.args.self.now.style c.notes.self.style old new _ c.row.result _ c.if-branch.true known.same_align known.keeps.same_style a.keeps.moves.same_end a.steps c.row.ensures.shows in
          rw (p.1, p.2)
          (note_stopped _ _ _ _ (style_of c.args.self.now.style) c.args.index align old.ahead.at new.ahead.at _ (notes_left align file old.ahead) (notes_left align file new.ahead) c.row.result _
          (step.gives file now (known.agrees file held)) (known.text file held) (rw known.keeps.same_style at row.shows));
    }

pub notes-preserved : goal.notes-preserved
notes-preserved g c =
    let known = c.notes.invariant in
    let a = c.in_ok-advance.ensures in
    let old = c.notes.cursor in
    let new = c.advance.new.self in
    let align = note_align c.args.align in
    let step = note_given _ align c.args.self.now.style c.notes.self.style old new _ c.row.result _ c.if-branch.true known.same_align known.keeps.same_style a.keeps.moves.same_end a.steps c.row.ensures.shows in
    let row = c.in_ok-note_row.ensures in
    let lists = row.keeps in
    let asks = row.spent.0 in
    let later = c.note_row.new.self.src.now.asked + c.note_row.new.self.ahead.credit in
    let bound = c.args.self.now.src.now.asked + (c.args.self.now.ahead.credit + c.args.table.count) in
    let asked = account_kept old.ahead.unread new.ahead.unread c.notes.self.src.now.asked c.advance.new.src.asked c.notes.self.ahead.credit later bound a.keeps.moves.account asks.account known.asked in
    record {
      same_table = a.keeps.same_table ∙ known.same_table;
      same_align = a.keeps.same_align ∙ known.same_align;
      not_failed = step.going;
      keeps = record {
        same_src = lists.same_src ∙ known.keeps.same_src;
        same_out = lists.same_out ∙ known.keeps.same_out;
        same_file = lists.same_file ∙ known.keeps.same_file;
        same_style = lists.same_style ∙ known.keeps.same_style;
      };
      spends = step_more known.spends a.asks.reads asks (at_most _ _ _ asked);
      asked = asked;
      agrees = λ file held. step.agrees file (known.spends.reads.keeps.same_file ∙ held) (known.agrees file held);
      grows = grows_then known.grows row.grows;
      text = λ file held.
          let now = known.spends.reads.keeps.same_file ∙ held in
          note_more _ _ _ (style_of c.args.self.now.style) c.args.index align old.ahead.at new.ahead.at _ (notes_left align file old.ahead) (notes_left align file new.ahead) c.row.result _
          (step.gives file now (known.agrees file held)) (known.text file held) (rw known.keeps.same_style at row.shows);
    }

pub returns : goal.returns
returns g c =
    let known = c.notes.invariant in
    let a = c.in_ok-advance.ensures in
    let account = a.keeps.moves.account in
    record {
      grows = known.grows;
      keeps = record { same_src = known.keeps.same_src; same_out = known.keeps.same_out; same_file = known.keeps.same_file; same_style = known.keeps.same_style };
      spent = (step_last known.spends a.asks.reads (omega (arith, known.asked, account)), tt);
      shows = λ file held.
          let now = known.spends.reads.keeps.same_file ∙ held in
          let step = rw c.if-branch.false at a.steps in
          let tells = rw known.same_align at (step.tells file now (known.agrees file held)) in
          before_none (style_of c.args.self.now.style) c.args.index (note_align c.args.align) c.notes.cursor.ahead.at _ _ tells (known.text file held);
    }

pub invariant_of-self : goal.invariant_of-self
invariant_of-self g c = record {
  loaded = still_open _ _ c.advance.ensures.asks.reads c.notes.self.loaded;
  viewed = still_viewed _ _ c.advance.ensures.asks.reads c.notes.self.viewed;
  held = still_held _ c.advance.ensures.asks.reads c.notes.self.held;
}
