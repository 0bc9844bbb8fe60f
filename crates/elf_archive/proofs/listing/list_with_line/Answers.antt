-- The line of a member is before its listing, alone or only if a line follows.
use Rattle.std.proofs.Common.{refl, ℕ}
use Rattle.std.proofs.lemmas.Result.{err_from_is_err_and}
use Rattle.elf_model.specs.Archive.{Member, is_refused, member_items, member_line, member_listing, told}
use Rattle.elf_source.proofs.GrowthLaws.{grows_front, grows_then}
use Rattle.elf_source.proofs.LineLaws.{broken_takes}
use Rattle.elf_source.proofs.ReadsLaws.{ReadsUpTo-none}
use Rattle.elf_options.specs.Permitted.{style_of}
use Rattle.elf_archive.specs.Prelude.{ReadsAtMostIn, member_of}
use Rattle.elf_archive.proofs.HeldLaws.{broken_stops, held_consumes, held_grows, held_refused, held_writes, line_fails_first, line_writes, told_clean}
use Rattle.elf_archive.proofs.listing.list_with_line.Goals as goal

pub returns-in_err-show_member : goal.returns-in_err-show_member
returns-in_err-show_member g c =
    let p = err_from_is_err_and c.from_residual.result c.from_residual.ensures.1 in
    let puts = c.in_err-show_member.ensures.puts in
    record {
      slots = refl;
      grows = grows_front puts.0;
      ceiling = rw (p.1, p.2) (ReadsUpTo-none c.args.src.now _, puts.1);
      cost = λ file held. rw (p.1, p.2) (ReadsUpTo-none c.args.src.now _, puts.1);
      shows = λ file held.
          let m : Member = member_of c.args.member.now c.args.name.now in
          rw (c.if-choice.true, p.1, p.2) (line_fails_first _ _ (member_line c.args.choice.style.format m) (told c.args.choice.style.format (member_listing file c.args.store.now.slots (style_of c.args.choice.style) c.args.choice.parts.0 m)) c.in_err-show_member.field-0.0 puts.0, tt);
    }

pub returns-then-choice : goal.returns-then-choice
returns-then-choice g c =
    let m : Member = member_of c.args.member.now c.args.name.now in
    let did = c.list_located.ensures in
    record {
      slots = did.slots;
      grows = grows_then (record { bytes = _; takes = c.in_ok-show_member.ensures.puts.0 }) did.grows;
      ceiling = did.ceiling;
      cost = did.cost;
      shows = λ file held.
          let shown = did.shows file held in
          rw c.if-choice.true (line_writes _ _ _ (member_line c.args.choice.style.format m) _ c.list_located.result c.in_ok-show_member.ensures.puts.0 shown.0, shown.1);
    }

pub returns-in_err-line : goal.returns-in_err-line
returns-in_err-line g c =
    let p = err_from_is_err_and c.from_residual-in_err-line.result c.from_residual-in_err-line.ensures.1 in
    let breaks = c.in_err-line.ensures.holds in
    record {
      slots = refl;
      grows = record { bytes = _; takes = broken_takes _ _ c.in_err-line.field-0.0 breaks };
      ceiling = rw (p.1, p.2) (ReadsUpTo-none c.args.src.now _, breaks.fails);
      cost = λ file held. rw (p.1, p.2) (ReadsUpTo-none c.args.src.now _, breaks.fails);
      shows = λ file held.
          let m : Member = member_of c.args.member.now c.args.name.now in
          let items = member_items c.args.choice.alone file c.args.store.now.slots (style_of c.args.choice.style) c.args.choice.parts.0 m in
          rw (p.1, p.2) (broken_stops c.args.out.now c.defer_member_line.new.out c.in_err-line.field-0.0 items breaks, tt);
    }

pub returns : goal.returns
returns g c =
    let m : Member = member_of c.args.member.now c.args.name.now in
    let did = c.list_located-listed.ensures in
    let line = member_line c.args.choice.style.format m in
    let began = c.args.out.now in
    let mid = c.defer_member_line.new.out in
    let old = c.list_located-listed.new.out in
    let new = c.end_listed.new.out in
    let takes : (n : ℕ) → ReadsAtMostIn c.args.src.now c.list_located-listed.new.src old c.list_located-listed.result n → ReadsAtMostIn c.args.src.now c.list_located-listed.new.src new c.end_listed.result n =
    λ n. held_consumes began mid old new line c.in_ok-line.line c.in_ok-line.ensures.holds c.end_listed.ensures.line _ _ n c.list_located-listed.result c.end_listed.result did.grows c.end_listed.ensures.listed in
    record {
      slots = did.slots;
      grows = held_grows began mid old new line c.in_ok-line.line c.in_ok-line.ensures.holds c.end_listed.ensures.line did.grows;
      ceiling = takes _ did.ceiling;
      cost = λ file held. takes _ (did.cost file held);
      shows = λ file held.
          let shown = did.shows file held in
          let inside = member_listing file c.args.store.now.slots (style_of c.args.choice.style) c.args.choice.parts.0 m in
          let items = told c.args.choice.style.format inside in
          rw c.if-choice.false (
            held_writes began mid old new line c.in_ok-line.line c.in_ok-line.ensures.holds c.end_listed.ensures.line
                c.list_located-listed.result c.end_listed.result items (told_clean c.args.choice.style.format inside) c.end_listed.ensures.listed shown.0,
            held_refused c.list_located-listed.result c.end_listed.result new (is_refused file c.args.store.now.slots (style_of c.args.choice.style) c.args.choice.parts.0 m) c.end_listed.ensures.listed shown.1,
          );
    }
