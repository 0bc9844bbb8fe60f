-- The line of a refusal ends a member's listing, and nothing else.
use Rattle.std.proofs.Common.{false}
use Rattle.std.proofs.lemmas.Result.{err_from_is_err_and}
use Rattle.elf_source.proofs.GrowthLaws.{grows_front, grows_then}
use Rattle.elf_archive.proofs.ToldLaws.{failed_told, refused_told, stop_told, whole_told}
use Rattle.elf_archive.proofs.listing.list_reported.Goals as goal

pub returns-in_err-list_member : goal.returns-in_err-list_member
returns-in_err-list_member g c =
    let p = err_from_is_err_and c.from_residual.result c.from_residual.ensures.1 in
    let did = c.in_err-list_member.ensures.lists in
    record {
      slots = did.slots;
      grows = did.grows;
      ceiling = rw (p.1, p.2) did.ceiling;
      cost = λ file held. rw (p.1, p.2) (did.cost file held);
      shows = λ file held. rw (p.1, p.2) (stop_told c.args.choice.style.format _ _ _ c.in_err-list_member.field-0.0 false (did.shows file held));
    }

pub returns-in-None : goal.returns-in-None
returns-in-None g c =
    let did = c.in_ok-list_member.ensures.lists in
    record {
      slots = did.slots;
      grows = did.grows;
      ceiling = (did.ceiling.0, tt);
      cost = λ file held. ((did.cost file held).0, tt);
      shows = λ file held. let lists = rw c.in-None.is at (did.shows file held) in whole_told c.args.choice.style.format _ lists;
    }

pub returns-in_err-show_refusal-in-Some : goal.returns-in_err-show_refusal-in-Some
returns-in_err-show_refusal-in-Some g c =
    let p = err_from_is_err_and c.from_residual-in_err-show_refusal-in-Some.result c.from_residual-in_err-show_refusal-in-Some.ensures.1 in
    let did = c.in_ok-list_member.ensures.lists in
    let puts = c.in_err-show_refusal-in-Some.ensures.puts in
    record {
      slots = did.slots;
      grows = grows_then did.grows (grows_front puts.0);
      ceiling = rw (p.1, p.2) (did.ceiling.0, puts.1);
      cost = λ file held. rw (p.1, p.2) ((did.cost file held).0, puts.1);
      shows = λ file held.
          let lists = rw c.in-Some.is at (did.shows file held) in
          rw (p.1, p.2) (failed_told c.args.choice.style.format _ _ _ _ c.in-Some.refusal (rw c.in-Some.is at c.in_ok-list_member.ensures.own) lists c.in_err-show_refusal-in-Some.field-0.0 false puts.0);
    }

pub returns-in_ok-show_refusal-in-Some : goal.returns-in_ok-show_refusal-in-Some
returns-in_ok-show_refusal-in-Some g c =
    let did = c.in_ok-list_member.ensures.lists in
    let puts = c.in_ok-show_refusal-in-Some.ensures.puts in
    record {
      slots = did.slots;
      grows = grows_then did.grows (record { bytes = _; takes = puts.0 });
      ceiling = (did.ceiling.0, tt);
      cost = λ file held. ((did.cost file held).0, tt);
      shows = λ file held.
          let lists = rw c.in-Some.is at (did.shows file held) in
          refused_told c.args.choice.style.format _ _ _ _ c.in-Some.refusal (rw c.in-Some.is at c.in_ok-list_member.ensures.own) lists puts.0;
    }
