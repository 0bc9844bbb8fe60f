-- The symbols are counted, and the lines of one more are written, or not; and no symbol is left.
use Rattle.std.proofs.Common.{Ok, Err, [], get_or, set, sym, ap, ◌∙◌, arith, refl}
use Rattle.std.proofs.lemmas.Result.{err_from_is_err_and}
use Rattle.elf_model.specs.BoundSymbols.{object_items}
use Rattle.elf_model.specs.LoaderScope.{lookup_tables_of}
use Rattle.elf_needs.specs.Bound.{IsBudgetShort, bound_among}
use Rattle.elf_needs.specs.declared.search_scope.WriteEnd.TheVariants.{Cut, Ended}
use Rattle.elf_needs.proofs.AskLaws.{are_kept, asks_one, asks_then, file_here, short_one, spends_same}
use Rattle.elf_needs.proofs.ItemLineLaws.{so_far_all, so_far_none}
use Rattle.elf_needs.proofs.WriteLaws.{SymbolsIn, bound_are, counted_in, faulted_lines, hashed_fits, items_are, items_none, items_refused, only_of, symbol_ends, symbol_more}
use Rattle.elf_needs.proofs.bindings.bind_object.Goals as goal

pub returns-in-Err-clause-asks : goal.returns-in-Err-clause-asks
returns-in-Err-clause-asks g c =
    let e = c.symbol_count.ensures in
    asks_one c.args.objects.now c.args.place c.index-objects-place.result c.symbol_count.new.self c.requires (spends_same e.costs e.same_headers) e.pays

pub returns-in-Err-clause-known : goal.returns-in-Err-clause-known
returns-in-Err-clause-known g c =
    λ headers files are.
    let objects = bound_among headers files c.args.scope.now in
    let here = file_here headers c.args.place c.args.objects.now files c.index-objects-place.result are c.requires in
    let told = c.symbol_count.ensures.known (get_or files c.args.place []) here.0 in
    let scope = ap (lookup_tables_of (get_or files c.args.place [])) (sym here.1) ∙ told.1 in
    faulted_lines c.args.scope.now.lines (object_items objects c.args.place (get_or files c.args.place [])) (IsBudgetShort (set c.args.objects.now c.args.place c.symbol_count.new.self) c.symbol_count.new.left) c.in-Err.fault c.args.out.now c.tell.new.out c.tell.result
    (items_refused objects c.args.place (get_or files c.args.place []) told.0 scope c.in-Err.fault (rw c.in-Err.is at told.2))
    (only_of (set c.args.objects.now c.args.place c.symbol_count.new.self) c.symbol_count.new.left c.in-Err.fault
    (short_one c.args.objects.now c.args.place c.index-objects-place.result c.symbol_count.new.self _ c.in-Err.fault c.requires (rw c.in-Err.is at c.symbol_count.ensures.costs) c.symbol_count.ensures.pays)) c.tell.ensures

pub loop-symbol-init : goal.loop-symbol-init
loop-symbol-init g c =
    let e = c.symbol_count.ensures in
    record {
      asks = asks_one c.args.objects.now c.args.place c.index-objects-place.result c.symbol_count.new.self c.requires (spends_same e.costs e.same_headers) e.pays;
      known = λ headers files are told found hashed. so_far_none (bound_are c.args.scope.now.lines) _ _ c.args.out.now refl;
    }

pub returns-in_err-fails-clause-asks : goal.returns-in_err-fails-clause-asks
returns-in_err-fails-clause-asks g c = asks_then c.loop-symbol.invariant.asks c.bind_symbol.ensures.asks

pub returns-in_err-fails-clause-known : goal.returns-in_err-fails-clause-known
returns-in_err-fails-clause-known g c =
    let l = c.loop-symbol in
    let i = l.invariant in
    let p = err_from_is_err_and c.from_residual.result c.from_residual.ensures.1 in
    rw (p.1, p.2)
    (λ headers files are.
    let has = counted_in headers c.args.place c.in-Ok.count c.args.objects.now files c.index-objects-place.result c.symbol_count.new.self c.symbol_count.result c.in-Ok.is c.symbol_count.ensures are c.requires in
    symbol_ends (bound_among headers files c.args.scope.now) c.args.place (get_or files c.args.place []) c.in-Ok.count l.symbol has (omega (arith, c.loop-symbol-test.true)) c.bind_symbol.new.out
    (i.known headers files are has.told has.scope has.hashed) (IsBudgetShort c.bind_symbol.new.objects c.bind_symbol.new.left) (Err c.in_err-fails.field-0.0) tt
    (c.in_err-fails.ensures.known headers files has.told (are_kept headers files i.asks are) has.scope (omega (arith, has.fits, c.loop-symbol-test.true))))

pub returns-in-Ended-clause-asks : goal.returns-in-Ended-clause-asks
returns-in-Ended-clause-asks g c = asks_then c.loop-symbol.invariant.asks c.bind_symbol.ensures.asks

pub returns-in-Ended-clause-known : goal.returns-in-Ended-clause-known
returns-in-Ended-clause-known g c =
    let l = c.loop-symbol in
    let i = l.invariant in
    λ headers files are.
    let has = counted_in headers c.args.place c.in-Ok.count c.args.objects.now files c.index-objects-place.result c.symbol_count.new.self c.symbol_count.result c.in-Ok.is c.symbol_count.ensures are c.requires in
    symbol_ends (bound_among headers files c.args.scope.now) c.args.place (get_or files c.args.place []) c.in-Ok.count l.symbol has (omega (arith, c.loop-symbol-test.true)) c.bind_symbol.new.out
    (i.known headers files are has.told has.scope has.hashed) (IsBudgetShort c.bind_symbol.new.objects c.bind_symbol.new.left) (Ok Ended) tt
    (rw c.in-Ended.is at (c.in_ok-fails.ensures.known headers files has.told (are_kept headers files i.asks are) has.scope (omega (arith, has.fits, c.loop-symbol-test.true))))

pub returns-in-Cut-clause-asks : goal.returns-in-Cut-clause-asks
returns-in-Cut-clause-asks g c = asks_then c.loop-symbol.invariant.asks c.bind_symbol.ensures.asks

pub returns-in-Cut-clause-known : goal.returns-in-Cut-clause-known
returns-in-Cut-clause-known g c =
    let l = c.loop-symbol in
    let i = l.invariant in
    λ headers files are.
    let has = counted_in headers c.args.place c.in-Ok.count c.args.objects.now files c.index-objects-place.result c.symbol_count.new.self c.symbol_count.result c.in-Ok.is c.symbol_count.ensures are c.requires in
    symbol_ends (bound_among headers files c.args.scope.now) c.args.place (get_or files c.args.place []) c.in-Ok.count l.symbol has (omega (arith, c.loop-symbol-test.true)) c.bind_symbol.new.out
    (i.known headers files are has.told has.scope has.hashed) (IsBudgetShort c.bind_symbol.new.objects c.bind_symbol.new.left) (Ok Cut) tt
    (rw c.in-Cut.is at (c.in_ok-fails.ensures.known headers files has.told (are_kept headers files i.asks are) has.scope (omega (arith, has.fits, c.loop-symbol-test.true))))

pub loop-symbol-preserved : goal.loop-symbol-preserved
loop-symbol-preserved g c =
    let l = c.loop-symbol in
    let i = l.invariant in
    record {
      asks = asks_then i.asks c.bind_symbol.ensures.asks;
      known = λ headers files are told scope hashed.
          let has : SymbolsIn (get_or files c.args.place []) headers c.in-Ok.count =
          record { told = told; scope = scope; hashed = hashed; fits = hashed_fits (get_or files c.args.place []) told c.in-Ok.count hashed } in
          rw c.either-fails.ensures
          (symbol_more (bound_among headers files c.args.scope.now) c.args.place (get_or files c.args.place []) c.in-Ok.count l.symbol has (omega (arith, c.loop-symbol-test.true)) c.bind_symbol.new.out
          (i.known headers files are told scope hashed) (IsBudgetShort c.bind_symbol.new.objects c.bind_symbol.new.left) c.in-Whole.fails
          (rw c.in-Whole.is at (c.in_ok-fails.ensures.known headers files told (are_kept headers files i.asks are) scope (omega (arith, has.fits, c.loop-symbol-test.true)))));
    }

pub returns-clause-known : goal.returns-clause-known
returns-clause-known g c =
    let l = c.loop-symbol in
    let i = l.invariant in
    λ headers files are.
    let objects = bound_among headers files c.args.scope.now in
    let file = get_or files c.args.place [] in
    let has = counted_in headers c.args.place c.in-Ok.count c.args.objects.now files c.index-objects-place.result c.symbol_count.new.self c.symbol_count.result c.in-Ok.is c.symbol_count.ensures are c.requires in
    let none = items_none objects c.args.place file has.told.symbols l.symbol c.in-Ok.count (omega (arith, c.loop-symbol-test.false)) in
    rw (items_are objects c.args.place file has.told has.scope c.in-Ok.count has.hashed)
    (so_far_all (bound_are c.args.scope.now.lines) (IsBudgetShort l.objects l.left) (rw none at (i.known headers files are has.told has.scope has.hashed)))
