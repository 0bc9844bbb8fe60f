-- The object with a name is found or not, and searched.
use Rattle.std.proofs.Common.{◌<◌, [], length, get_or, Ok, sym, ap, ◌∙◌, arith}
use Rattle.elf_table.proofs.Absent.{none-of}
use Rattle.elf_model.specs.LoaderScope.{lookup_tables_of}
use Rattle.elf_needs.specs.Bound.{bound_among}
use Rattle.elf_needs.proofs.AskLaws.{as_many, asks_one, file_here, short_one, spends_same}
use Rattle.elf_needs.proofs.StateLaws.{lacks_it, lacks_refused, not_called, not_placed, not_there}
use Rattle.elf_needs.proofs.bound_states.lacks_in.Goals as goal

pub returns-in_default-clause-known : goal.returns-in_default-clause-known
returns-in_default-clause-known g c =
    let none = none-of c.called.result c.in_default.not-Some in
    λ headers files are. ap Ok (not_called (bound_among headers files c.args.scope.now) c.args.name.now c.args.version.now (sym c.called.ensures ∙ none))

pub returns-in_default-place_of-clause-known : goal.returns-in_default-place_of-clause-known
returns-in_default-place_of-clause-known g c =
    let none = none-of c.place_of.result c.in_default-place_of.not-Some in
    λ headers files are.
    ap Ok (not_placed (bound_among headers files c.args.scope.now) c.args.name.now c.args.version.now c.in-Some.index (sym c.called.ensures ∙ c.in-Some.is) (sym c.place_of.ensures ∙ none))

pub returns-then-place-objects-clause-known : goal.returns-then-place-objects-clause-known
returns-then-place-objects-clause-known g c =
    λ headers files are.
    ap Ok (not_there (bound_among headers files c.args.scope.now) c.args.name.now c.args.version.now c.in-Some.index (sym c.called.ensures ∙ c.in-Some.is) c.in-Some-place_of.place
    (sym c.place_of.ensures ∙ c.in-Some-place_of.is) (omega (arith, as_many headers c.args.objects.now files are, c.if-place-objects.true)))

pub returns-in-Ok-clause-asks : goal.returns-in-Ok-clause-asks
returns-in-Ok-clause-asks g c =
    let e = c.lacks_version.ensures in
    asks_one c.args.objects.now c.in-Some-place_of.place c.index-objects-place.result c.lacks_version.new.self (omega (arith, c.if-place-objects.false)) (spends_same e.costs e.same_headers) e.pays

pub returns-in-Ok-clause-known : goal.returns-in-Ok-clause-known
returns-in-Ok-clause-known g c =
    λ headers files are.
    let less : c.in-Some-place_of.place < length c.args.objects.now = omega (arith, c.if-place-objects.false) in
    let here = file_here headers c.in-Some-place_of.place c.args.objects.now files c.index-objects-place.result are less in
    let told = c.lacks_version.ensures.known (get_or files c.in-Some-place_of.place []) here.0 in
    ap Ok (lacks_it (bound_among headers files c.args.scope.now) c.args.name.now c.args.version.now c.in-Some.index (sym c.called.ensures ∙ c.in-Some.is) c.in-Some-place_of.place
    (sym c.place_of.ensures ∙ c.in-Some-place_of.is) (omega (arith, less, as_many headers c.args.objects.now files are)) told.0
    (ap (lookup_tables_of (get_or files c.in-Some-place_of.place [])) (sym here.1) ∙ told.1) c.in-Ok.lacks (rw c.in-Ok.is at told.2))

pub returns-in-Err-clause-asks : goal.returns-in-Err-clause-asks
returns-in-Err-clause-asks g c =
    let e = c.lacks_version.ensures in
    asks_one c.args.objects.now c.in-Some-place_of.place c.index-objects-place.result c.lacks_version.new.self (omega (arith, c.if-place-objects.false)) (spends_same e.costs e.same_headers) e.pays

pub returns-in-Err-clause-short : goal.returns-in-Err-clause-short
returns-in-Err-clause-short g c =
    let costs = rw c.in-Err.is at c.lacks_version.ensures.costs in
    short_one c.args.objects.now c.in-Some-place_of.place c.index-objects-place.result c.lacks_version.new.self _ c.in-Err.fault (omega (arith, c.if-place-objects.false)) costs c.lacks_version.ensures.pays

pub returns-in-Err-2-clause-asks : goal.returns-in-Err-2-clause-asks
returns-in-Err-2-clause-asks g c =
    let e = c.lacks_version.ensures in
    asks_one c.args.objects.now c.in-Some-place_of.place c.index-objects-place.result c.lacks_version.new.self (omega (arith, c.if-place-objects.false)) (spends_same e.costs e.same_headers) e.pays

pub returns-in-Err-2-clause-known : goal.returns-in-Err-2-clause-known
returns-in-Err-2-clause-known g c =
    λ headers files are.
    let less : c.in-Some-place_of.place < length c.args.objects.now = omega (arith, c.if-place-objects.false) in
    let here = file_here headers c.in-Some-place_of.place c.args.objects.now files c.index-objects-place.result are less in
    let told = c.lacks_version.ensures.known (get_or files c.in-Some-place_of.place []) here.0 in
    ap Ok (lacks_refused (bound_among headers files c.args.scope.now) c.args.name.now c.args.version.now c.in-Some.index (sym c.called.ensures ∙ c.in-Some.is) c.in-Some-place_of.place
    (sym c.place_of.ensures ∙ c.in-Some-place_of.is) (omega (arith, less, as_many headers c.args.objects.now files are)) told.0
    (ap (lookup_tables_of (get_or files c.in-Some-place_of.place [])) (sym here.1) ∙ told.1) c.in-Err.fault (rw c.if-is_reported_alone.false at c.is_reported_alone.ensures) (rw c.in-Err.is at told.2))
