-- One more object, whose lines are all written, or not; and no object is left.
use Rattle.std.proofs.Common.{◌<◌, ◌+◌, [], drop, get_or, length, refl, sym, ◌∙◌, arith}
use Rattle.std.proofs.lemmas.Result.{err_from_is_err_and}
use Rattle.elf_table.proofs.Absent.{none-of}
use Rattle.elf_model.specs.BoundSymbols.{bound_items, object_items, objects_items}
use Rattle.elf_needs.specs.Bound.{IsBudgetShort, bound_among}
use Rattle.elf_needs.proofs.AskLaws.{are_kept, as_many, asks_none, asks_then}
use Rattle.elf_needs.proofs.ItemLineLaws.{ends_cut, ends_fault, failing_none, failing_some, so_far_all, so_far_more, so_far_none}
use Rattle.elf_needs.proofs.WriteLaws.{bound_are, objects_next, objects_none}
use Rattle.elf_needs.proofs.bindings.bind_all.Goals as goal

pub returns-in_err-end-clause-asks : goal.returns-in_err-end-clause-asks
returns-in_err-end-clause-asks g c = asks_then c.loop-place.invariant.asks c.bind_object.ensures.asks

pub returns-in_err-end-clause-known : goal.returns-in_err-end-clause-known
returns-in_err-end-clause-known g c =
    let l = c.loop-place in
    let i = l.invariant in
    let p = err_from_is_err_and c.from_residual.result c.from_residual.ensures.1 in
    rw (p.1, p.2)
    (λ headers files are.
    let objects = bound_among headers files c.args.scope.now in
    let low : l.place < length files = omega (arith, as_many headers c.args.objects.now files are, i.end, c.loop-place-test.true) in
    ends_fault (bound_are c.args.scope.now.lines) (objects_items objects l.place (drop l.place files)) (object_items objects l.place (get_or files l.place [])) (objects_items objects (l.place + 1) (drop (l.place + 1) files))
    c.bind_object.new.out (IsBudgetShort c.bind_object.new.objects c.bind_object.new.left) (i.known headers files are) (objects_next objects l.place files low) _ (c.in_err-end.ensures.known headers files (are_kept headers files i.asks are)))

pub returns-in_default-clause-asks : goal.returns-in_default-clause-asks
returns-in_default-clause-asks g c = asks_then c.loop-place.invariant.asks c.bind_object.ensures.asks

pub returns-in_default-clause-known : goal.returns-in_default-clause-known
returns-in_default-clause-known g c =
    let l = c.loop-place in
    let i = l.invariant in
    let cut = failing_none c.in_ok-end.end (sym c.failing.ensures ∙ none-of c.failing.result c.in_default.not-Some) in
    λ headers files are.
    let objects = bound_among headers files c.args.scope.now in
    let low : l.place < length files = omega (arith, as_many headers c.args.objects.now files are, i.end, c.loop-place-test.true) in
    ends_cut (bound_are c.args.scope.now.lines) (objects_items objects l.place (drop l.place files)) (object_items objects l.place (get_or files l.place [])) (objects_items objects (l.place + 1) (drop (l.place + 1) files))
    c.bind_object.new.out (IsBudgetShort c.bind_object.new.objects c.bind_object.new.left) (i.known headers files are) (objects_next objects l.place files low) (rw cut at (c.in_ok-end.ensures.known headers files (are_kept headers files i.asks are)))

pub loop-place-preserved : goal.loop-place-preserved
loop-place-preserved g c =
    let l = c.loop-place in
    let i = l.invariant in
    record {
      asks = asks_then i.asks c.bind_object.ensures.asks;
      known = λ headers files are.
          let objects = bound_among headers files c.args.scope.now in
          let low : l.place < length files = omega (arith, as_many headers c.args.objects.now files are, i.end, c.loop-place-test.true) in
          let writes = failing_some (bound_are c.args.scope.now.lines) (object_items objects l.place (get_or files l.place [])) (IsBudgetShort c.bind_object.new.objects c.bind_object.new.left) l.out c.bind_object.new.out c.in_ok-end.end c.in-Some.more (c.in_ok-end.ensures.known headers files (are_kept headers files i.asks are)) (sym c.failing.ensures ∙ c.in-Some.is) in
          rw c.either-fails.ensures
          (so_far_more (bound_are c.args.scope.now.lines) (objects_items objects l.place (drop l.place files)) (object_items objects l.place (get_or files l.place [])) (objects_items objects (l.place + 1) (drop (l.place + 1) files))
          c.in-Some.more (i.known headers files are) (objects_next objects l.place files low) writes.0 writes.1);
      end = i.end;
    }

pub returns-clause-known : goal.returns-clause-known
returns-clause-known g c =
    let l = c.loop-place in
    let i = l.invariant in
    λ headers files are.
    let objects = bound_among headers files c.args.scope.now in
    let none = objects_none objects l.place files (omega (arith, as_many headers c.args.objects.now files are, i.end, c.loop-place-test.false)) in
    so_far_all (bound_are c.args.scope.now.lines) (IsBudgetShort l.objects l.left) (rw none at (i.known headers files are))

pub loop-place-init : goal.loop-place-init
loop-place-init g c = record {
  asks = asks_none c.args.objects.now c.args.left.now;
  known = λ headers files are. so_far_none (bound_are c.args.scope.now.lines) (bound_items (bound_among headers files c.args.scope.now)) (bound_items (bound_among headers files c.args.scope.now)) c.args.out.now refl;
  end = refl;
}
