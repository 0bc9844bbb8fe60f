-- No object is asked, or one.
use Rattle.std.proofs.Common.{◌<◌, [], length, get_or, sym, ap, ◌∙◌, arith, Ok}
use Rattle.elf_table.proofs.Absent.{none-of}
use Rattle.elf_library.specs.Prelude.{needed_of}
use Rattle.elf_needs.specs.Providers.{versioned_among}
use Rattle.elf_needs.proofs.AskLaws.{as_many, asks_one, file_here, short_if, spends_same}
use Rattle.elf_needs.proofs.ProviderLaws.{returns_state, state_alone, state_nowhere, state_past, state_unplaced}
use Rattle.elf_needs.proofs.version_lines.state_of.Goals as goal

pub returns-in-NoObject-clause-known : goal.returns-in-NoObject-clause-known
returns-in-NoObject-clause-known g c =
    rw c.in-NoObject.is (λ headers files are. ap Ok (state_nowhere (versioned_among files c.args.scope.now) (needed_of c.args.needed.now)))

pub returns-in-Interpreter-clause-known : goal.returns-in-Interpreter-clause-known
returns-in-Interpreter-clause-known g c =
    rw c.in-Interpreter.is (λ headers files are. ap Ok (state_alone (versioned_among files c.args.scope.now) (needed_of c.args.needed.now)))

pub returns-in_default-clause-known : goal.returns-in_default-clause-known
returns-in_default-clause-known g c =
    let none = sym c.place_of.ensures ∙ none-of c.place_of.result c.in_default.not-Some in
    rw c.in-Object.is (λ headers files are. ap Ok (state_unplaced (versioned_among files c.args.scope.now) (needed_of c.args.needed.now) c.in-Object.index none))

pub returns-then-place-objects-clause-known : goal.returns-then-place-objects-clause-known
returns-then-place-objects-clause-known g c =
    rw c.in-Object.is
    (λ headers files are.
    ap Ok (state_past (versioned_among files c.args.scope.now) (needed_of c.args.needed.now) c.in-Object.index c.in-Some.place (sym c.place_of.ensures ∙ c.in-Some.is)
    (omega (arith, as_many headers c.args.objects.now files are, c.if-place-objects.true))))

pub returns-clause-asks : goal.returns-clause-asks
returns-clause-asks g c =
    let e = c.version_state.ensures in
    asks_one c.args.objects.now c.in-Some.place c.index-objects-place.result c.version_state.new.self (omega (arith, c.if-place-objects.false)) (spends_same e.costs e.same_headers) e.pays

pub returns-clause-short : goal.returns-clause-short
returns-clause-short g c =
    let e = c.version_state.ensures in
    short_if c.args.objects.now c.in-Some.place c.index-objects-place.result c.version_state.new.self _ (omega (arith, c.if-place-objects.false)) c.version_state.result e.costs e.pays

pub returns-clause-known : goal.returns-clause-known
returns-clause-known g c =
    rw c.in-Object.is
    (λ headers files are.
    let less : c.in-Some.place < length c.args.objects.now = omega (arith, c.if-place-objects.false) in
    let here = file_here headers c.in-Some.place c.args.objects.now files c.index-objects-place.result are less in
    returns_state (versioned_among files c.args.scope.now) (needed_of c.args.needed.now) c.in-Object.index c.in-Some.place (sym c.place_of.ensures ∙ c.in-Some.is)
    (omega (arith, less, as_many headers c.args.objects.now files are)) c.version_state.result (c.version_state.ensures.known (get_or files c.in-Some.place []) here.0))
