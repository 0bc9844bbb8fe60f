-- The lookup's result is the answer, or the budget ends it.
use Rattle.std.proofs.Common.{of_calls, rules, ◌≡◌, List, ℕ, Ok, Err, sym, subst}
use Rattle.std.proofs.iter.Serving.{serving}
use Rattle.elf_model.specs.Prelude.{loader_answer, loader_ceiling, loader_cost, looked_at, parse_query}
use Rattle.elf_options.specs.Wants.{query_of}
use Rattle.elf_loader.specs.Lookups.{AreShort, LooksThrough}
use Rattle.elf_requests.proofs.LookupLaws.{lookup_stopped, resolve_answers, resolve_refuses, wanted_short}
use Rattle.elf_requests.proofs.resolve_request.resolve.Goals as goal

pub within-found-requires : goal.within-found-requires
within-found-requires g c =
    let short = subst AreShort (sym c.parse_query-wanted.ensures) (wanted_short c.args.text.now c.requires.most) in
    grind serving

pub returns-in-Ok-clause-runs : goal.returns-in-Ok-clause-runs
returns-in-Ok-clause-runs g c =
    let reads = c.within-found.ensures in
    let found : c.within-found.result ≡ Ok c.in-Ok.lookup = search rules in
    let did = c.show_resolved.ensures in
    resolve_answers c.args.style.format c.args.limits.budget c.args.limits.headers c.args.text.now c.args.style.by_segments reads.sets reads.frees reads.calls.shows reads.calls.leaves
    found c.requires.slots.0 c.parse_query-wanted.ensures c.show_resolved.result did.grows did.fails did.text (search of_calls)

pub returns-in-Err-clause-runs : goal.returns-in-Err-clause-runs
returns-in-Err-clause-runs g c =
    let reads = c.within-found.ensures in
    let limits = c.args.limits in
    let wanted = parse_query c.args.text.now in
    let found : c.within-found.result ≡ Err c.in-Err.fault = search rules in
    let calls = reads.calls in
    let call : (name : List ℕ) × LooksThrough calls.shown.now calls.left.now (looked_at c.args.style.by_segments) c.args.store.now.slots (query_of c.parse_query-wanted.result) name c.within-found.result = search of_calls in
    let did = rw (calls.leaves, calls.shows, c.requires.slots.0, c.parse_query-wanted.ensures, found) at call.1 in
    lookup_stopped c.args.style.format limits.budget c.args.src.now reads.before reads.after c.within-found.new.self (λ size. loader_ceiling size limits.headers wanted)
    (λ file. loader_cost (looked_at c.args.style.by_segments file) limits.headers wanted)
    (λ file. loader_answer c.args.style.format (looked_at c.args.style.by_segments file) limits.headers c.args.text.now) reads.sets reads.frees c.in-Err.fault c.show_stop.result c.requires.slots.1
    did.costs c.show_stop.ensures.grows (rw (c.into.ensures) at c.show_stop.ensures.tells)
    (λ file held. let finds = did.known file held in (finds.costs, resolve_refuses c.args.style.format (looked_at c.args.style.by_segments file) limits.headers wanted call.0 c.in-Err.fault finds.tells))
