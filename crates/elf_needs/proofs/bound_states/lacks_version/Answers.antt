-- The needed file's name is read, and its object searched.
use Rattle.std.proofs.Common.{[], get_or, ap, ◌∙◌, arith}
use Rattle.std.proofs.lemmas.Result.{err_from_is_err_and}
use Rattle.elf_table.proofs.Absent.{none-of}
use Rattle.elf_model.specs.LoaderScope.{lookup_tables_of}
use Rattle.elf_needs.specs.Bound.{bound_among}
use Rattle.elf_needs.proofs.AskLaws.{are_kept, asks_one, asks_then, file_here, short_one, spends_same}
use Rattle.elf_needs.proofs.StateLaws.{lacks_fileless, lacks_named, lacks_unnamed, lacks_unversioned, lacks_weak}
use Rattle.elf_needs.proofs.bound_states.lacks_version.Goals as goal

pub returns-then-not-sought-clause-known : goal.returns-then-not-sought-clause-known
returns-then-not-sought-clause-known g c =
    λ headers files told are found some weak is.
    lacks_unversioned (bound_among headers files c.args.scope.now) (get_or files c.args.at.place []) told.symbols c.args.at.symbol c.args.names.now.version c.args.sought.now.versioned c.if-not-sought.true

pub returns-then-sought-clause-known : goal.returns-then-sought-clause-known
returns-then-sought-clause-known g c =
    λ headers files told are found some weak is.
    lacks_weak (bound_among headers files c.args.scope.now) (get_or files c.args.at.place []) told.symbols c.args.at.symbol c.args.names.now.version c.args.sought.now.versioned c.args.sought.now.weak
    c.if-not-sought.false weak c.if-sought.true

pub returns-in_default-clause-known : goal.returns-in_default-clause-known
returns-in_default-clause-known g c =
    let none = none-of c.args.sought.now.file c.in_default.not-Some in
    λ headers files told are found some weak is.
    lacks_fileless (bound_among headers files c.args.scope.now) (get_or files c.args.at.place []) told.symbols c.args.at.symbol c.args.names.now.version c.args.sought.now.versioned c.args.sought.now.weak
    c.if-not-sought.false weak c.if-sought.false c.args.sought.now.file is none

pub returns-in_err-needed_file-clause-asks : goal.returns-in_err-needed_file-clause-asks
returns-in_err-needed_file-clause-asks g c =
    let e = c.needed_file.ensures in
    asks_one c.args.objects.now c.args.at.place c.index-objects-at.result c.needed_file.new.self (omega (arith, c.requires)) (spends_same e.costs e.same_headers) e.pays

pub returns-in_err-needed_file-clause-known : goal.returns-in_err-needed_file-clause-known
returns-in_err-needed_file-clause-known g c =
    let p = err_from_is_err_and c.from_residual.result c.from_residual.ensures.1 in
    rw (p.1, p.2)
    (λ headers files told are found some weak is.
    let here = file_here headers c.args.at.place c.args.objects.now files c.index-objects-at.result are c.requires in
    let tells = c.in_err-needed_file.ensures.known (get_or files c.args.at.place []) told here.0 (ap (lookup_tables_of (get_or files c.args.at.place [])) here.1 ∙ found) some in
    lacks_unnamed (bound_among headers files c.args.scope.now) (get_or files c.args.at.place []) told.symbols c.args.at.symbol c.args.names.now.version c.args.sought.now.versioned c.args.sought.now.weak
    c.if-not-sought.false weak c.if-sought.false c.in-Some.file c.args.sought.now.file is c.in-Some.is c.needed_file.new.name _ tells)

pub returns-clause-asks : goal.returns-clause-asks
returns-clause-asks g c =
    let e = c.needed_file.ensures in
    asks_then (asks_one c.args.objects.now c.args.at.place c.index-objects-at.result c.needed_file.new.self c.requires (spends_same e.costs e.same_headers) e.pays) c.lacks_in.ensures.asks

pub returns-clause-known : goal.returns-clause-known
returns-clause-known g c =
    λ headers files told are found some weak is.
    let e = c.needed_file.ensures in
    let asks = asks_one c.args.objects.now c.args.at.place c.index-objects-at.result c.needed_file.new.self c.requires (spends_same e.costs e.same_headers) e.pays in
    let here = file_here headers c.args.at.place c.args.objects.now files c.index-objects-at.result are c.requires in
    let tells = c.in_ok-needed_file.ensures.known (get_or files c.args.at.place []) told here.0 (ap (lookup_tables_of (get_or files c.args.at.place [])) here.1 ∙ found) some in
    let named = lacks_named (bound_among headers files c.args.scope.now) (get_or files c.args.at.place []) told.symbols c.args.at.symbol c.args.names.now.version c.args.sought.now.versioned c.args.sought.now.weak
    c.if-not-sought.false weak c.if-sought.false c.in-Some.file c.args.sought.now.file is c.in-Some.is c.needed_file.new.name tells in
    rw named (rw (c.bytes.ensures.value, c.bytes-2.ensures.value) at (c.lacks_in.ensures.known headers files (are_kept headers files asks are)))

pub returns-in_err-needed_file-clause-short : goal.returns-in_err-needed_file-clause-short
returns-in_err-needed_file-clause-short g c =
    let p = err_from_is_err_and c.from_residual.result c.from_residual.ensures.1 in
    rw (p.1, p.2) (short_one c.args.objects.now c.args.at.place c.index-objects-at.result c.needed_file.new.self _ _ (omega (arith, c.requires)) c.in_err-needed_file.ensures.costs c.in_err-needed_file.ensures.pays)
