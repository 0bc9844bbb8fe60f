-- The next record is read, and its version is checked.
use Rattle.std.proofs.Common.{ℕ, [], Err, Ok, ap, get_or, refl, set, subst}
use Rattle.std.proofs.lemmas.Result.{err_from_is_err_and}
use Rattle.elf_model.specs.Prelude.{Needs, version_item, version_items_of}
use Rattle.elf_needs.specs.Bound.{IsBudgetShort}
use Rattle.elf_library.specs.Prelude.{needed_of, needs_left}
use Rattle.elf_needs.specs.Providers.{versioned_among}
use Rattle.elf_needs.specs.VersionLines.{WritesVersion, left_versions}
use Rattle.elf_needs.proofs.AskLaws.{are_kept, asks_one, asks_then, file_here, short_one, spends_same}
use Rattle.elf_needs.proofs.NeedWalkLaws.{goes_on}
use Rattle.elf_needs.proofs.VersionItemLaws.{items_fault, items_needs, items_none}
use Rattle.elf_needs.proofs.VersionWriteLaws.{faulted_versions, need_faults, need_passes, need_stops, need_told}
use Rattle.elf_needs.proofs.WriteLaws.{only_of}
use Rattle.elf_needs.proofs.version_lines.check_next.Goals as goal

pub returns-in-Ok-None-clause-asks : goal.returns-in-Ok-None-clause-asks
returns-in-Ok-None-clause-asks g c =
    let e = c.next_need.ensures in
    asks_one c.args.objects.now c.args.place c.index-objects-place.result c.next_need.new.self c.requires.place (spends_same e.costs e.same_headers) e.pays

pub returns-in_err-tell-in-Err-clause-asks : goal.returns-in_err-tell-in-Err-clause-asks
returns-in_err-tell-in-Err-clause-asks g c =
    let e = c.next_need.ensures in
    asks_one c.args.objects.now c.args.place c.index-objects-place.result c.next_need.new.self c.requires.place (spends_same e.costs e.same_headers) e.pays

pub returns-in-Err-clause-asks : goal.returns-in-Err-clause-asks
returns-in-Err-clause-asks g c =
    let e = c.next_need.ensures in
    asks_one c.args.objects.now c.args.place c.index-objects-place.result c.next_need.new.self c.requires.place (spends_same e.costs e.same_headers) e.pays

pub returns-then-not-is_version-clause-asks : goal.returns-then-not-is_version-clause-asks
returns-then-not-is_version-clause-asks g c =
    let e = c.next_need.ensures in
    asks_one c.args.objects.now c.args.place c.index-objects-place.result c.next_need.new.self c.requires.place (spends_same e.costs e.same_headers) e.pays

pub returns-in_err-check_version-clause-asks : goal.returns-in_err-check_version-clause-asks
returns-in_err-check_version-clause-asks g c =
    let e = c.next_need.ensures in
    asks_then (asks_one c.args.objects.now c.args.place c.index-objects-place.result c.next_need.new.self c.requires.place (spends_same e.costs e.same_headers) e.pays) c.check_version.ensures.asks

pub returns-clause-asks : goal.returns-clause-asks
returns-clause-asks g c =
    let e = c.next_need.ensures in
    asks_then (asks_one c.args.objects.now c.args.place c.index-objects-place.result c.next_need.new.self c.requires.place (spends_same e.costs e.same_headers) e.pays) c.check_version.ensures.asks

pub returns-clause-goes : goal.returns-clause-goes
returns-clause-goes g c =
    goes_on c.args.objects.now c.check_version.new.objects c.args.place c.next_need.new.self c.args.walk.now c.next_need.new.walk c.in_ok-check_version.field-0 c.requires.place
    c.check_version.ensures.asks (rw (c.in-Ok-Some.is, c.in-Ok-Some.field-0-is) at c.next_need.ensures.goes)

pub returns-in-Ok-None-clause-known : goal.returns-in-Ok-None-clause-known
returns-in-Ok-None-clause-known g c =
    λ headers files told are is.
    let file = get_or files c.args.place [] in
    let here = file_here headers c.args.place c.args.objects.now files c.index-objects-place.result are c.requires.place in
    let step = c.next_need.ensures.known file here.0 told is in
    let none = rw (c.in-Ok-None.is, c.in-Ok-None.field-0-is) at step.tells in
    (step.is, (items_none (versioned_among files c.args.scope.now) (get_or c.args.scope.now.indexes.now c.args.place 0) (needs_left file told c.args.walk.now) none, refl))

pub returns-in_err-tell-in-Err-clause-known : goal.returns-in_err-tell-in-Err-clause-known
returns-in_err-tell-in-Err-clause-known g c =
    let p = err_from_is_err_and c.from_residual.result c.from_residual.ensures.1 in
    let objects = set c.args.objects.now c.args.place c.next_need.new.self in
    rw (p.1, p.2)
    (λ headers files told are is.
    let file = get_or files c.args.place [] in
    let here = file_here headers c.args.place c.args.objects.now files c.index-objects-place.result are c.requires.place in
    let step = c.next_need.ensures.known file here.0 told is in (
      step.is,
      faulted_versions c.args.scope.now.lines.format (left_versions files c.args.scope.now c.args.place told c.args.walk.now) (IsBudgetShort objects c.next_need.new.left) c.in-Err.fault c.args.out.now c.tell.new.out _
          (items_fault (versioned_among files c.args.scope.now) (get_or c.args.scope.now.indexes.now c.args.place 0) (needs_left file told c.args.walk.now) (needs_left file told c.next_need.new.walk) c.next_need.new.walk c.in-Err.fault (rw c.in-Err.is at step.tells))
          (only_of objects c.next_need.new.left c.in-Err.fault
          (short_one c.args.objects.now c.args.place c.index-objects-place.result c.next_need.new.self _ c.in-Err.fault c.requires.place (rw c.in-Err.is at c.next_need.ensures.costs) c.next_need.ensures.pays)) c.in_err-tell-in-Err.ensures,
    ))

pub returns-in-Err-clause-known : goal.returns-in-Err-clause-known
returns-in-Err-clause-known g c =
    let objects = set c.args.objects.now c.args.place c.next_need.new.self in
    λ headers files told are is.
    let file = get_or files c.args.place [] in
    let here = file_here headers c.args.place c.args.objects.now files c.index-objects-place.result are c.requires.place in
    let step = c.next_need.ensures.known file here.0 told is in
    let all = left_versions files c.args.scope.now c.args.place told c.args.walk.now in (
      step.is,
      need_faults c.args.scope.now.lines.format (IsBudgetShort objects c.next_need.new.left) all (left_versions files c.args.scope.now c.args.place told c.next_need.new.walk) c.in-Err.fault c.args.out.now c.tell.new.out _ c.in_ok-tell-in-Err.ensures
          (faulted_versions c.args.scope.now.lines.format all (IsBudgetShort objects c.next_need.new.left) c.in-Err.fault c.args.out.now c.tell.new.out _
          (items_fault (versioned_among files c.args.scope.now) (get_or c.args.scope.now.indexes.now c.args.place 0) (needs_left file told c.args.walk.now) (needs_left file told c.next_need.new.walk) c.next_need.new.walk c.in-Err.fault (rw c.in-Err.is at step.tells))
          (only_of objects c.next_need.new.left c.in-Err.fault
          (short_one c.args.objects.now c.args.place c.index-objects-place.result c.next_need.new.self _ c.in-Err.fault c.requires.place (rw c.in-Err.is at c.next_need.ensures.costs) c.next_need.ensures.pays)) c.in_ok-tell-in-Err.ensures),
    )

pub returns-then-not-is_version-clause-known : goal.returns-then-not-is_version-clause-known
returns-then-not-is_version-clause-known g c =
    λ headers files told are is.
    let file = get_or files c.args.place [] in
    let here = file_here headers c.args.place c.args.objects.now files c.index-objects-place.result are c.requires.place in
    let step = c.next_need.ensures.known file here.0 told is in
    let passed = rw (c.in-Ok-Some.is, c.in-Ok-Some.field-0-is, c.if-not-is_version.true) at step.tells in (
      step.is,
      need_passes c.args.scope.now.lines.format (IsBudgetShort (set c.args.objects.now c.args.place c.next_need.new.self) c.next_need.new.left)
          (left_versions files c.args.scope.now c.args.place told c.args.walk.now) (left_versions files c.args.scope.now c.args.place told c.next_need.new.walk) c.args.out.now
          (ap (version_items_of (versioned_among files c.args.scope.now) (get_or c.args.scope.now.indexes.now c.args.place 0)) passed),
    )

pub returns-in_err-check_version-clause-known : goal.returns-in_err-check_version-clause-known
returns-in_err-check_version-clause-known g c =
    let e = c.next_need.ensures in
    let p = err_from_is_err_and c.from_residual-in_err-check_version.result c.from_residual-in_err-check_version.ensures.1 in
    let asks = asks_one c.args.objects.now c.args.place c.index-objects-place.result c.next_need.new.self c.requires.place (spends_same e.costs e.same_headers) e.pays in
    rw (p.1, p.2)
    (λ headers files told are is.
    let objects = versioned_among files c.args.scope.now in
    let object = get_or c.args.scope.now.indexes.now c.args.place 0 in
    let file = get_or files c.args.place [] in
    let here = file_here headers c.args.place c.args.objects.now files c.index-objects-place.result are c.requires.place in
    let step = e.known file here.0 told is in
    let next = rw (c.in-Ok-Some.is, c.in-Ok-Some.field-0-is, c.if-not-is_version.false) at step.tells in (
      step.is,
      need_stops c.args.scope.now.lines.format (IsBudgetShort c.check_version.new.objects c.check_version.new.left) (left_versions files c.args.scope.now c.args.place told c.args.walk.now)
          (version_item objects object (Needs (needed_of c.next_need.new.walk))) (left_versions files c.args.scope.now c.args.place told c.next_need.new.walk)
          (items_needs objects object (needs_left file told c.args.walk.now) (needs_left file told c.next_need.new.walk) (needed_of c.next_need.new.walk) next) c.args.out.now c.check_version.new.out _
          (subst (λ (n : ℕ). WritesVersion c.args.scope.now.lines.format (version_item objects n (Needs (needed_of c.next_need.new.walk))) (IsBudgetShort c.check_version.new.objects c.check_version.new.left) c.args.out.now c.check_version.new.out (Err c.in_err-check_version.field-0.0)) c.index_at-object.ensures
          (c.in_err-check_version.ensures.known headers files (are_kept headers files asks are))),
    ))

pub returns-clause-known : goal.returns-clause-known
returns-clause-known g c =
    let e = c.next_need.ensures in
    let asks = asks_one c.args.objects.now c.args.place c.index-objects-place.result c.next_need.new.self c.requires.place (spends_same e.costs e.same_headers) e.pays in
    λ headers files told are is.
    let objects = versioned_among files c.args.scope.now in
    let object = get_or c.args.scope.now.indexes.now c.args.place 0 in
    let file = get_or files c.args.place [] in
    let here = file_here headers c.args.place c.args.objects.now files c.index-objects-place.result are c.requires.place in
    let step = e.known file here.0 told is in
    let next = rw (c.in-Ok-Some.is, c.in-Ok-Some.field-0-is, c.if-not-is_version.false) at step.tells in (
      step.is,
      need_told c.args.scope.now.lines.format (IsBudgetShort c.check_version.new.objects c.check_version.new.left) (left_versions files c.args.scope.now c.args.place told c.args.walk.now)
          (version_item objects object (Needs (needed_of c.next_need.new.walk))) (left_versions files c.args.scope.now c.args.place told c.next_need.new.walk)
          (items_needs objects object (needs_left file told c.args.walk.now) (needs_left file told c.next_need.new.walk) (needed_of c.next_need.new.walk) next) c.args.out.now c.check_version.new.out c.in_ok-check_version.field-0
          (subst (λ (n : ℕ). WritesVersion c.args.scope.now.lines.format (version_item objects n (Needs (needed_of c.next_need.new.walk))) (IsBudgetShort c.check_version.new.objects c.check_version.new.left) c.args.out.now c.check_version.new.out (Ok c.in_ok-check_version.field-0)) c.index_at-object.ensures
          (c.in_ok-check_version.ensures.known headers files (are_kept headers files asks are))),
    )
