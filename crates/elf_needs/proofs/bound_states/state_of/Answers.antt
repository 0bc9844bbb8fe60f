-- The lookup over all objects has a result, or fails, or the object of the version's file is
-- searched.
use Rattle.std.proofs.Common.{[], get_or}
use Rattle.std.proofs.lemmas.Result.{err_from_is_err_and}
use Rattle.elf_library.specs.Prelude.{asked_if}
use Rattle.elf_needs.specs.Prelude.{bound_among}
use Rattle.elf_options.specs.Wants.{query_of}
use Rattle.elf_needs.proofs.AskLaws.{are_kept, asks_bind, asks_then, short_bind}
use Rattle.elf_needs.proofs.StateLaws.{state_bound, state_fault, state_none, state_refused, wanted_is}
use Rattle.elf_needs.proofs.bound_states.state_of.Goals as goal

pub returns-in_err-lacks-in-Ok-Unbound-clause-asks : goal.returns-in_err-lacks-in-Ok-Unbound-clause-asks
returns-in_err-lacks-in-Ok-Unbound-clause-asks g c = asks_then (asks_bind c.bind.ensures) c.lacks_version.ensures.asks

pub returns-in_err-lacks-in-Ok-Unbound-clause-known : goal.returns-in_err-lacks-in-Ok-Unbound-clause-known
returns-in_err-lacks-in-Ok-Unbound-clause-known g c =
    let p = err_from_is_err_and c.from_residual.result c.from_residual.ensures.1 in
    let w = wanted_is (query_of c.wanted-wanted.result) c.args.names.now.name (asked_if c.args.sought.now.versioned c.args.names.now.version) c.wanted-wanted.ensures.name (rw c.requires.versioned at c.wanted-wanted.ensures.asked) in
    rw (p.1, p.2)
    (λ headers files told are found some weak is.
    state_fault (bound_among headers files c.args.scope.now) (get_or files c.args.at.place []) told.symbols c.args.at.symbol _ _
    (rw (w, c.in-Ok-Unbound.is, c.in-Ok-Unbound.field-0-is) at (c.bind.ensures.tells headers files are))
    (c.in_err-lacks-in-Ok-Unbound.ensures.known headers files told (are_kept headers files (asks_bind c.bind.ensures) are) found some weak is))

pub returns-then-is_reported_alone-clause-asks : goal.returns-then-is_reported_alone-clause-asks
returns-then-is_reported_alone-clause-asks g c = asks_bind c.bind.ensures

pub returns-then-is_reported_alone-clause-short : goal.returns-then-is_reported_alone-clause-short
returns-then-is_reported_alone-clause-short g c = short_bind c.in-Err.field-0 (rw c.in-Err.is at c.bind.ensures)

pub returns-in-Ok-Bound-clause-asks : goal.returns-in-Ok-Bound-clause-asks
returns-in-Ok-Bound-clause-asks g c = asks_bind c.bind.ensures

pub returns-in-Ok-Bound-clause-known : goal.returns-in-Ok-Bound-clause-known
returns-in-Ok-Bound-clause-known g c =
    let w = wanted_is (query_of c.wanted-wanted.result) c.args.names.now.name (asked_if c.args.sought.now.versioned c.args.names.now.version) c.wanted-wanted.ensures.name (rw c.requires.versioned at c.wanted-wanted.ensures.asked) in
    λ headers files told are found some weak is.
    rw (c.index_at.ensures)
    (state_bound (bound_among headers files c.args.scope.now) (get_or files c.args.at.place []) told.symbols c.args.at.symbol _ c.in-Ok-Bound.object c.in-Ok-Bound.symbol
    (rw (w, c.in-Ok-Bound.is, c.in-Ok-Bound.field-0-is) at (c.bind.ensures.tells headers files are)))

pub returns-in_ok-lacks-in-Ok-Unbound-clause-asks : goal.returns-in_ok-lacks-in-Ok-Unbound-clause-asks
returns-in_ok-lacks-in-Ok-Unbound-clause-asks g c = asks_then (asks_bind c.bind.ensures) c.lacks_version.ensures.asks

pub returns-in_ok-lacks-in-Ok-Unbound-clause-known : goal.returns-in_ok-lacks-in-Ok-Unbound-clause-known
returns-in_ok-lacks-in-Ok-Unbound-clause-known g c =
    let w = wanted_is (query_of c.wanted-wanted.result) c.args.names.now.name (asked_if c.args.sought.now.versioned c.args.names.now.version) c.wanted-wanted.ensures.name (rw c.requires.versioned at c.wanted-wanted.ensures.asked) in
    λ headers files told are found some weak is.
    rw (c.unbound_state.ensures, weak)
    (state_none (bound_among headers files c.args.scope.now) (get_or files c.args.at.place []) told.symbols c.args.at.symbol _ c.in_ok-lacks-in-Ok-Unbound.lacks
    (rw (w, c.in-Ok-Unbound.is, c.in-Ok-Unbound.field-0-is) at (c.bind.ensures.tells headers files are))
    (c.in_ok-lacks-in-Ok-Unbound.ensures.known headers files told (are_kept headers files (asks_bind c.bind.ensures) are) found some weak is))

pub returns-else-is_reported_alone-clause-asks : goal.returns-else-is_reported_alone-clause-asks
returns-else-is_reported_alone-clause-asks g c = asks_bind c.bind.ensures

pub returns-else-is_reported_alone-clause-known : goal.returns-else-is_reported_alone-clause-known
returns-else-is_reported_alone-clause-known g c =
    let w = wanted_is (query_of c.wanted-wanted.result) c.args.names.now.name (asked_if c.args.sought.now.versioned c.args.names.now.version) c.wanted-wanted.ensures.name (rw c.requires.versioned at c.wanted-wanted.ensures.asked) in
    λ headers files told are found some weak is.
    rw (c.index_at-in-Err.ensures)
    (state_refused (bound_among headers files c.args.scope.now) (get_or files c.args.at.place []) told.symbols c.args.at.symbol _ c.in-Err.field-0 (rw c.if-is_reported_alone.false at c.is_reported_alone.ensures)
    (rw (w, c.in-Err.is) at (c.bind.ensures.tells headers files are)))
