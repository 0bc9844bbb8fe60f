-- The lookup's result is the answer, or the budget ends it.
use Rattle.std.proofs.Common.{length, of_calls, rules, ◌≡◌, Err}
use Rattle.elf_model.specs.Prelude.{find_answer, find_cost}
use Rattle.elf_table.specs.Prelude.{CallDid, fault_of_result}
use Rattle.elf_hash.specs.Lookups.{FindsBySysv, find_bytes}
use Rattle.elf_requests.proofs.LookupLaws.{find_refuses, lookup_stopped}
use Rattle.elf_requests.proofs.find_request.look_up.Goals as goal

pub returns-in-Err-clause-runs : goal.returns-in-Err-clause-runs
returns-in-Err-clause-runs g c =
    let reads = c.within-found.ensures in
    let limits = c.args.limits in
    let wanted = c.args.wanted.now in
    let found : c.within-found.result ≡ Err c.in-Err.fault = search rules in
    let calls = reads.calls in
    let call : CallDid calls.shown.now calls.left.now (fault_of_result c.within-found.result) (find_bytes calls.shown.now.seen.size c.args.store.now.slots (length wanted))
    (λ file. FindsBySysv file c.args.store.now.slots wanted calls.shown.now calls.left.now c.within-found.result) = search of_calls in
    let did = rw (calls.leaves, calls.shows, c.requires.slots.0, found) at call in
    lookup_stopped c.args.format limits.budget c.args.src.now reads.before reads.after c.within-found.new.self (λ size. find_bytes size limits.headers (length wanted))
    (λ file. find_cost file limits.headers wanted) (λ file. find_answer c.args.format file limits.headers wanted) reads.sets reads.frees c.in-Err.fault c.show_stop.result c.requires.slots.1
    did.costs c.show_stop.ensures.grows (rw (c.into.ensures) at c.show_stop.ensures.tells)
    (λ file held. let finds = did.known file held in (finds.costs, find_refuses c.args.format file limits.headers wanted c.in-Err.fault finds.finds))
