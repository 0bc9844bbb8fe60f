-- Each record that the cursor reads is the file's, and is shown after those before it.
use Rattle.std.proofs.Common.{◌+◌, None, Ok, refl, ◌∙◌, ap, arith}
use Rattle.std.proofs.lemmas.Result.{err_from_is_err_and}
use Rattle.elf_options.specs.Permitted.{style_of}
use Rattle.elf_table.proofs.OpenLaws.{still_open}
use Rattle.elf_model.specs.Names.{name_bytes}
use Rattle.elf_note.proofs.HeldLaws.{still_held}
use Rattle.elf_note.proofs.SpendsLaws.{SpendsAtMost-none, SpendsAtMost-reads, SpendsAtMost-then, SpendsAtMost-to}
use Rattle.elf_source.proofs.GrowthLaws.{grows_not, grows_then}
use Rattle.elf_table.specs.Tables.{strings_in}
use Rattle.elf_note.specs.Reading.{unread, versions_left}
use Rattle.elf_note.proofs.TakenLaws.{going-did, unread-fewer}
use Rattle.elf_note.proofs.WordLaws.{none-of}
use Rattle.elf_listing.proofs.Amounts.{part_of}
use Rattle.elf_listing.specs.Versions.{records_cost}
use Rattle.elf_listing.proofs.LoopLaws.{at_most, spent_unread, step_more, step_stopped}
use Rattle.elf_listing.proofs.NotesShown.{before_all}
use Rattle.elf_listing.proofs.VersionsShown.{record_more, record_pays, record_stopped, records_account, records_end, records_fault, step_given}
use Rattle.elf_listing.proofs.ViewedLaws.{still_viewed}
use Rattle.elf_listing.proofs.listing.Listing.version_rows_in.Goals as goal

pub records-init : goal.records-init
records-init g c = record {
  going = c.requires.going;
  same_held = refl;
  keeps = record { same_src = refl; same_out = refl; same_file = refl; same_style = refl };
  spends = SpendsAtMost-none _ _ _ _ (part_of _ _);
  asked = omega arith;
  agrees = λ file held agrees. agrees;
  grows = grows_not _;
  text = λ file held agrees. before_all _ _ _ refl;
}

pub returns-in_err-given : goal.returns-in_err-given
returns-in_err-given g c =
    let known = c.records.invariant in
    let p = err_from_is_err_and c.from_residual.result c.from_residual.ensures.1 in
    let a = c.in_err-given.ensures in
    let did = going-did c.records.cursor.failed _ known.going a.did in
    let fewer = unread-fewer c.records.cursor c.advance.new.self a.keeps in
    let reads = did.costs.reads in
    record {
      grows = known.grows;
      keeps = record { same_src = known.keeps.same_src; same_out = known.keeps.same_out; same_file = known.keeps.same_file; same_style = known.keeps.same_style };
      spent = rw (p.1, p.2) (spent_unread _ _ _ _ _ _ _ _ _ _ (omega (arith, known.asked, fewer)) known.spends reads did.costs.says);
      shows = λ file held agrees.
          let now = known.spends.reads.keeps.same_file ∙ held in
          let step = did.known file now (known.agrees file held agrees) in
          rw (p.1, p.2) (records_fault _ _ _ file (style_of c.args.self.now.style) c.args.section (strings_in file c.args.names) _ _ (versions_left file c.advance.new.self) (step.tells known.going) (known.text file held agrees));
    }

pub returns-in_err-version_row : goal.returns-in_err-version_row
returns-in_err-version_row g c =
    let known = c.records.invariant in
    let p = err_from_is_err_and c.from_residual-in_err-version_row.result c.from_residual-in_err-version_row.ensures.1 in
    let a = c.in_ok-given.ensures in
    let old = c.records.cursor in
    let new = c.advance.new.self in
    let step = step_given _ _ old new c.in-Some.given _ c.in-Some.is known.going a.did a.keeps a.leaves in
    let own = name_bytes c.args.self.now.style.cap.bytes in
    let row = c.in_err-version_row.ensures in
    let lists = row.keeps in
    record {
      grows = grows_then known.grows row.grows;
      keeps = record {
        same_src = lists.same_src ∙ known.keeps.same_src;
        same_out = lists.same_out ∙ known.keeps.same_out;
        same_file = lists.same_file ∙ known.keeps.same_file;
        same_style = lists.same_style ∙ known.keeps.same_style;
      };
      spent =
          let within = record_pays (unread old) (unread new) old.left new.left own c.records.self.src.now.asked c.advance.new.src.asked c.records.self.ahead.credit _ step.less step.account known.asked in
          rw (p.1, p.2) (step_stopped _ _ _ _ _ _ _ _ _ _ _ _ own _ (ap (λ s. name_bytes s.cap.bytes) known.keeps.same_style) within known.spends step.reads row.spent);
      shows = λ file held agrees.
          let now = known.spends.reads.keeps.same_file ∙ held in
          rw (p.1, p.2)
          (record_stopped _ _ _ _ file c.args.self.now.style c.records.self.style c.args.section (strings_in file c.args.names) _ (versions_left file old) (versions_left file new) c.in-Some.given
          known.keeps.same_style (step.gives file now (known.agrees file held agrees)) (known.text file held agrees) (λ met is. row.shows file met (step.reads.keeps.same_file ∙ now) is));
    }

pub records-preserved : goal.records-preserved
records-preserved g c =
    let known = c.records.invariant in
    let a = c.in_ok-given.ensures in
    let old = c.records.cursor in
    let new = c.advance.new.self in
    let step = step_given _ _ old new c.in-Some.given _ c.in-Some.is known.going a.did a.keeps a.leaves in
    let own = name_bytes c.args.self.now.style.cap.bytes in
    let row = c.in_ok-version_row.ensures in
    let lists = row.keeps in
    let asks = row.spent.0 in
    let credit = c.records.self.ahead.credit in
    let later = c.version_row.new.self.src.now.asked + c.version_row.new.self.ahead.credit in
    let bound = c.args.self.now.src.now.asked + (c.args.self.now.ahead.credit + records_cost c.args.cursor.now c.args.self.now.style.cap.bytes) in
    let most = rw known.keeps.same_style at asks.account in
    let asked = records_account (unread old) (unread new) old.left new.left own c.records.self.src.now.asked c.advance.new.src.asked credit later bound step.less step.account most known.asked in
    record {
      going = step.going;
      same_held = a.keeps.same_held ∙ known.same_held;
      keeps = record {
        same_src = lists.same_src ∙ known.keeps.same_src;
        same_out = lists.same_out ∙ known.keeps.same_out;
        same_file = lists.same_file ∙ known.keeps.same_file;
        same_style = lists.same_style ∙ known.keeps.same_style;
      };
      spends = step_more known.spends step.reads asks (at_most _ _ _ asked);
      asked = asked;
      agrees = λ file held agrees. step.agrees file (known.spends.reads.keeps.same_file ∙ held) (known.agrees file held agrees);
      grows = grows_then known.grows row.grows;
      text = λ file held agrees.
          let now = known.spends.reads.keeps.same_file ∙ held in
          record_more _ _ _ file c.args.self.now.style c.records.self.style c.args.section (strings_in file c.args.names) _ (versions_left file old) (versions_left file new) c.in-Some.given
          known.keeps.same_style (step.gives file now (known.agrees file held agrees)) (known.text file held agrees) (λ met is. row.shows file met (step.reads.keeps.same_file ∙ now) is);
    }

pub returns : goal.returns
returns g c =
    let known = c.records.invariant in
    let a = c.in_ok-given.ensures in
    let none = none-of c.in_ok-given.field-0 c.in_default.not-Some in
    let did = going-did c.records.cursor.failed (Ok None) known.going (rw none at a.did) in
    let fewer = unread-fewer c.records.cursor c.advance.new.self a.keeps in
    let credit = c.records.self.ahead.credit in
    let reads = did.costs.reads in
    let most = reads.at_most in
    record {
      grows = known.grows;
      keeps = record { same_src = known.keeps.same_src; same_out = known.keeps.same_out; same_file = known.keeps.same_file; same_style = known.keeps.same_style };
      spent = (SpendsAtMost-to (SpendsAtMost-then known.spends (SpendsAtMost-reads credit reads)) (omega (arith, known.asked, most, fewer)), tt);
      shows = λ file held agrees.
          let step = did.known file (known.spends.reads.keeps.same_file ∙ held) (known.agrees file held agrees) in
          records_end file (style_of c.args.self.now.style) c.args.section (strings_in file c.args.names) _ _ (step.tells known.going) (known.text file held agrees);
    }

pub invariant_of-self : goal.invariant_of-self
invariant_of-self g c = record {
  loaded = still_open _ _ c.advance.ensures.did.costs.reads c.records.self.loaded;
  viewed = still_viewed _ _ c.advance.ensures.did.costs.reads c.records.self.viewed;
  held = still_held _ c.advance.ensures.did.costs.reads c.records.self.held;
}
