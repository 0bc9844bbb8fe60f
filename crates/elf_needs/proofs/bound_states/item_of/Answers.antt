-- The symbol is read, and what binds it is looked up.
use Rattle.std.proofs.Common.{true, [], None, get_or, ap, ◌∙◌, arith}
use Rattle.std.proofs.lemmas.Result.{err_from_is_err_and}
use Rattle.elf_table.proofs.Absent.{none-of}
use Rattle.elf_model.specs.LoaderScope.{lookup_tables_of}
use Rattle.elf_needs.specs.Bound.{bound_among}
use Rattle.elf_needs.proofs.AskLaws.{are_kept, asks_one, asks_then, file_here, short_one, spends_same}
use Rattle.elf_needs.proofs.StateLaws.{item_fault, item_none, item_state, item_stopped}
use Rattle.elf_needs.proofs.bound_states.item_of.Goals as goal

pub returns-in_err-sought-clause-asks : goal.returns-in_err-sought-clause-asks
returns-in_err-sought-clause-asks g c =
    let e = c.sought.ensures in
    asks_one c.args.objects.now c.args.at.place c.index-objects-at.result c.sought.new.self c.requires (spends_same e.costs e.same_headers) e.pays

pub returns-in_err-sought-clause-known : goal.returns-in_err-sought-clause-known
returns-in_err-sought-clause-known g c =
    let p = err_from_is_err_and c.from_residual.result c.from_residual.ensures.1 in
    rw (p.1, p.2)
    (λ headers files told are found below.
    let here = file_here headers c.args.at.place c.args.objects.now files c.index-objects-at.result are c.requires in
    let tells = c.in_err-sought.ensures.known (get_or files c.args.at.place []) told here.0 (ap (lookup_tables_of (get_or files c.args.at.place [])) here.1 ∙ found) below in
    item_fault (bound_among headers files c.args.scope.now) c.args.at.place (get_or files c.args.at.place []) told.symbols c.args.at.symbol true [] [] [] None 0 _ tells)

pub returns-in_default-clause-asks : goal.returns-in_default-clause-asks
returns-in_default-clause-asks g c =
    let e = c.sought.ensures in
    asks_one c.args.objects.now c.args.at.place c.index-objects-at.result c.sought.new.self c.requires (spends_same e.costs e.same_headers) e.pays

pub returns-in_default-clause-known : goal.returns-in_default-clause-known
returns-in_default-clause-known g c =
    let none = none-of c.in_ok-sought.sought c.in_default.not-Some in
    λ headers files told are found below.
    let here = file_here headers c.args.at.place c.args.objects.now files c.index-objects-at.result are c.requires in
    let tells = c.in_ok-sought.ensures.known (get_or files c.args.at.place []) told here.0 (ap (lookup_tables_of (get_or files c.args.at.place [])) here.1 ∙ found) below in
    item_none (bound_among headers files c.args.scope.now) c.args.at.place (get_or files c.args.at.place []) told.symbols c.args.at.symbol (rw none at tells)

pub returns-in_err-state-clause-asks : goal.returns-in_err-state-clause-asks
returns-in_err-state-clause-asks g c =
    let e = c.sought.ensures in
    asks_then (asks_one c.args.objects.now c.args.at.place c.index-objects-at.result c.sought.new.self c.requires (spends_same e.costs e.same_headers) e.pays) c.state_of.ensures.asks

pub returns-in_err-state-clause-known : goal.returns-in_err-state-clause-known
returns-in_err-state-clause-known g c =
    let p = err_from_is_err_and c.from_residual-in_err-state.result c.from_residual-in_err-state.ensures.1 in
    let e = c.sought.ensures in
    let asks = asks_one c.args.objects.now c.args.at.place c.index-objects-at.result c.sought.new.self c.requires (spends_same e.costs e.same_headers) e.pays in
    rw (p.1, p.2)
    (λ headers files told are found below.
    let here = file_here headers c.args.at.place c.args.objects.now files c.index-objects-at.result are c.requires in
    let scope = ap (lookup_tables_of (get_or files c.args.at.place [])) here.1 ∙ found in
    let tells = rw c.in-Some.is at (c.in_ok-sought.ensures.known (get_or files c.args.at.place []) told here.0 scope below) in
    let of = rw c.in-Some.is at (c.in_ok-sought.ensures.of_file (get_or files c.args.at.place []) told here.0 scope below) in
    item_stopped (bound_among headers files c.args.scope.now) c.args.at.place (get_or files c.args.at.place []) told.symbols c.args.at.symbol c.sought.new.name c.sought.new.version c.in-Some.sought.versioned tells.0 [] None 0 _
    (c.in_err-state.ensures.known headers files told (are_kept headers files asks are) found (omega (arith, below)) tells.1 of))

pub returns-clause-asks : goal.returns-clause-asks
returns-clause-asks g c =
    let e = c.sought.ensures in
    asks_then (asks_one c.args.objects.now c.args.at.place c.index-objects-at.result c.sought.new.self c.requires (spends_same e.costs e.same_headers) e.pays) c.state_of.ensures.asks

pub returns-clause-known : goal.returns-clause-known
returns-clause-known g c =
    let e = c.sought.ensures in
    let asks = asks_one c.args.objects.now c.args.at.place c.index-objects-at.result c.sought.new.self c.requires (spends_same e.costs e.same_headers) e.pays in
    λ headers files told are found below.
    let here = file_here headers c.args.at.place c.args.objects.now files c.index-objects-at.result are c.requires in
    let scope = ap (lookup_tables_of (get_or files c.args.at.place [])) here.1 ∙ found in
    let tells = rw c.in-Some.is at (c.in_ok-sought.ensures.known (get_or files c.args.at.place []) told here.0 scope below) in
    let of = rw c.in-Some.is at (c.in_ok-sought.ensures.of_file (get_or files c.args.at.place []) told here.0 scope below) in
    let name = c.state_of.ensures.name in
    let version = c.state_of.ensures.version in
    let versioned = c.state_of.ensures.versioned in
    rw (name, version, versioned)
    (item_state (bound_among headers files c.args.scope.now) c.args.at.place (get_or files c.args.at.place []) told.symbols c.args.at.symbol c.sought.new.name c.sought.new.version c.in-Some.sought.versioned tells.0 c.in_ok-state.state
    (c.in_ok-state.ensures.known headers files told (are_kept headers files asks are) found (omega (arith, below)) tells.1 of))

pub returns-in_err-sought-clause-short : goal.returns-in_err-sought-clause-short
returns-in_err-sought-clause-short g c =
    let p = err_from_is_err_and c.from_residual.result c.from_residual.ensures.1 in
    rw (p.1, p.2) (short_one c.args.objects.now c.args.at.place c.index-objects-at.result c.sought.new.self _ _ c.requires c.in_err-sought.ensures.costs c.in_err-sought.ensures.pays)
