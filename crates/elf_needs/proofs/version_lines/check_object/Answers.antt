-- The records are found, one more is read and its version is checked, until none is left.
use Rattle.std.proofs.Common.{[], ap, get_or, sym, ◌∙◌, refl}
use Rattle.std.proofs.lemmas.Result.{err_from_is_err_and}
use Rattle.elf_table.proofs.Absent.{none-of}
use Rattle.elf_model.specs.Prelude.{version_items_of, versions_needed}
use Rattle.elf_needs.specs.Bound.{IsBudgetShort}
use Rattle.elf_needs.specs.Providers.{versioned_among}
use Rattle.elf_needs.specs.VersionLines.{left_versions, object_versions}
use Rattle.elf_needs.proofs.AskLaws.{are_kept, asks_none, asks_then, file_here}
use Rattle.elf_needs.proofs.NeedWalkLaws.{steps_here}
use Rattle.elf_needs.proofs.VersionItemLaws.{items_none, needs_none, needs_some, object_refused}
use Rattle.elf_needs.proofs.ItemLineLaws.{ends_last, so_far_none, so_far_step}
use Rattle.elf_needs.proofs.VersionWriteLaws.{version_listed, versions_are, walk_cut, walk_ends, walk_stops}
use Rattle.elf_needs.proofs.version_lines.check_object.Goals as goal

pub returns-in-Ok-None-clause-known : goal.returns-in-Ok-None-clause-known
returns-in-Ok-None-clause-known g c =
    λ headers files are.
    let file = get_or files c.args.place [] in
    let here = file_here headers c.args.place c.args.objects.now files c.index-objects-place.result are c.requires in
    let known = rw (c.in-Ok-None.is, c.in-Ok-None.field-0-is) at (c.needs-2.ensures.known file here.0) in
    version_listed c.args.scope.now.lines.format (object_versions files c.args.scope.now c.args.place) (IsBudgetShort c.args.objects.now c.args.left.now)
    (items_none (versioned_among files c.args.scope.now) (get_or c.args.scope.now.indexes.now c.args.place 0) (versions_needed file) (needs_none file known.1 known.0)) c.args.out.now

pub returns-in-Err-clause-known : goal.returns-in-Err-clause-known
returns-in-Err-clause-known g c =
    λ headers files are.
    let file = get_or files c.args.place [] in
    let here = file_here headers c.args.place c.args.objects.now files c.index-objects-place.result are c.requires in
    let known = rw c.in-Err.is at (c.needs-2.ensures.known file here.0) in
    object_refused (versioned_among files c.args.scope.now) (get_or c.args.scope.now.indexes.now c.args.place 0) file known.1 c.in-Err.fault known.0 c.args.scope.now.lines.format
    (IsBudgetShort c.args.objects.now c.args.left.now) c.args.out.now c.tell.new.out c.tell.result c.tell.ensures

pub needs-init : goal.needs-init
needs-init g c = record {
  asks = asks_none c.args.objects.now c.args.left.now;
  steps =
      steps_here c.args.objects.now c.args.place c.index-objects-place.result c.new-walk.result c.requires
      (c.new-walk.ensures.steps _ (rw (c.in-Ok-Some.is, c.in-Ok-Some.field-0-is) at c.needs-2.ensures.lies));
  known = λ headers files are.
      let file = get_or files c.args.place [] in
      let here = file_here headers c.args.place c.args.objects.now files c.index-objects-place.result are c.requires in
      let known = rw (c.in-Ok-Some.is, c.in-Ok-Some.field-0-is) at (c.needs-2.ensures.known file here.0) in
      let some = needs_some file known.1 c.in-Ok-Some.records known.0 in
      let starts = c.new-walk.ensures.starts file some.0 some.1 in
      record {
        told = some.0;
        is = starts.0;
        writes = so_far_none (versions_are c.args.scope.now.lines.format) (object_versions files c.args.scope.now c.args.place) (left_versions files c.args.scope.now c.args.place some.0 c.new-walk.result) c.args.out.now
            (ap (version_items_of (versioned_among files c.args.scope.now) (get_or c.args.scope.now.indexes.now c.args.place 0)) (some.2 ∙ sym starts.1));
      };
}

pub needs-smaller : goal.needs-smaller
needs-smaller g c = (rw (c.in-Some.is, c.in-Whole.is) at (c.in_ok-end.ensures.goes c.index-objects-place.result)).one_fewer

pub needs-preserved : goal.needs-preserved
needs-preserved g c =
    let i = c.needs.invariant in
    record {
      asks = asks_then i.asks c.check_next.ensures.asks;
      steps = λ d. (rw (c.in-Some.is, c.in-Whole.is) at (c.in_ok-end.ensures.goes d)).steps;
      known = λ headers files are.
          let before = i.known headers files are in
          let next = rw (c.in-Some.is, c.in-Whole.is) at (c.in_ok-end.ensures.known headers files before.told (are_kept headers files i.asks are) before.is) in
          rw c.either-fails.ensures (record { told = before.told; is = next.0; writes = so_far_step (versions_are c.args.scope.now.lines.format) before.writes next.1 });
    }

pub returns-in_err-end-clause-asks : goal.returns-in_err-end-clause-asks
returns-in_err-end-clause-asks g c = asks_then c.needs.invariant.asks c.check_next.ensures.asks

pub returns-in_err-end-clause-known : goal.returns-in_err-end-clause-known
returns-in_err-end-clause-known g c =
    let i = c.needs.invariant in
    let p = err_from_is_err_and c.from_residual.result c.from_residual.ensures.1 in
    rw (p.1, p.2)
    (λ headers files are.
    let before = i.known headers files are in
    let next = c.in_err-end.ensures.known headers files before.told (are_kept headers files i.asks are) before.is in
    walk_stops (left_versions files c.args.scope.now c.args.place before.told c.needs.walk) (left_versions files c.args.scope.now c.args.place before.told c.check_next.new.walk) c.check_next.new.out
    (IsBudgetShort c.check_next.new.objects c.check_next.new.left) before.writes _ next.1)

pub returns-in-Ended-clause-asks : goal.returns-in-Ended-clause-asks
returns-in-Ended-clause-asks g c = asks_then c.needs.invariant.asks c.check_next.ensures.asks

pub returns-in-Ended-clause-known : goal.returns-in-Ended-clause-known
returns-in-Ended-clause-known g c =
    let i = c.needs.invariant in
    λ headers files are.
    let before = i.known headers files are in
    let next = rw (c.in-Some.is, c.in-Ended.is) at (c.in_ok-end.ensures.known headers files before.told (are_kept headers files i.asks are) before.is) in
    ends_last (versions_are c.args.scope.now.lines.format) (left_versions files c.args.scope.now c.args.place before.told c.needs.walk) _ c.check_next.new.out (IsBudgetShort c.check_next.new.objects c.check_next.new.left) (IsBudgetShort c.check_next.new.objects c.check_next.new.left) before.writes refl next.1

pub returns-in-Cut-clause-asks : goal.returns-in-Cut-clause-asks
returns-in-Cut-clause-asks g c = asks_then c.needs.invariant.asks c.check_next.ensures.asks

pub returns-in-Cut-clause-known : goal.returns-in-Cut-clause-known
returns-in-Cut-clause-known g c =
    let i = c.needs.invariant in
    λ headers files are.
    let before = i.known headers files are in
    let next = rw (c.in-Some.is, c.in-Cut.is) at (c.in_ok-end.ensures.known headers files before.told (are_kept headers files i.asks are) before.is) in
    walk_cut (left_versions files c.args.scope.now c.args.place before.told c.needs.walk) (left_versions files c.args.scope.now c.args.place before.told c.check_next.new.walk) c.check_next.new.out
    (IsBudgetShort c.check_next.new.objects c.check_next.new.left) before.writes next.1

pub returns-clause-asks : goal.returns-clause-asks
returns-clause-asks g c = asks_then c.needs.invariant.asks c.check_next.ensures.asks

pub returns-clause-known : goal.returns-clause-known
returns-clause-known g c =
    let i = c.needs.invariant in
    let none = none-of c.in_ok-end.field-0 c.in_default.not-Some in
    λ headers files are.
    let before = i.known headers files are in
    let next = rw none at (c.in_ok-end.ensures.known headers files before.told (are_kept headers files i.asks are) before.is) in
    walk_ends (left_versions files c.args.scope.now c.args.place before.told c.needs.walk) (left_versions files c.args.scope.now c.args.place before.told c.check_next.new.walk) c.check_next.new.out
    (IsBudgetShort c.check_next.new.objects c.check_next.new.left) before.writes next.1
