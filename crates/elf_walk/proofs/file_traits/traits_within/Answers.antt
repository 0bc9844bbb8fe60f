-- The result of the search for traits is found within the budget.
use Rattle.std.proofs.Common.{◌≡◌, Err, Ok, ap, arith, of_calls, rules, ◌∙◌}
use Rattle.elf_loader.specs.TraitStages.{FindsTraits}
use Rattle.elf_model.specs.Prelude.{traits_ceiling}
use Rattle.elf_source.specs.Source.{SourceState}
use Rattle.elf_table.specs.Prelude.{CallDid, fault_of_result}
use Rattle.elf_table.specs.declared.fault.Fault.TheVariants.{Refused}
use Rattle.elf_walk.proofs.FoundLaws.{found_within, refused_within, short_within}
use Rattle.elf_walk.proofs.file_traits.traits_within.Goals as goal

pub returns-then-length-lt-HEADER_BYTES-clause-finds : goal.returns-then-length-lt-HEADER_BYTES-clause-finds
returns-then-length-lt-HEADER_BYTES-clause-finds g c = λ file held.
    let sized = c.args.src.now.seen.sized file held in
    short_within c.args.limits.budget c.args.limits.headers file c.read_short_file_status.result (omega (arith, sized, c.length.ensures.value, c.if-length-lt-HEADER_BYTES.true))
    (c.read_short_file_status.ensures.state file held)

pub returns-in-Err-Refused-clause-finds : goal.returns-in-Err-Refused-clause-finds
returns-in-Err-Refused-clause-finds g c = λ file held.
    let sized = c.args.src.now.seen.sized file held in
    let reads = c.within-found.ensures in
    let now = ap (λ (seen : SourceState). seen.file) reads.sets.seen ∙ held in
    let size = ap (λ (seen : SourceState). seen.size) reads.sets.seen in
    let end : c.within-found.result ≡ Err (Refused c.in-Err-Refused.refusal) = search rules in
    let calls = reads.calls in
    let call : CallDid calls.shown.now calls.left.now (fault_of_result c.within-found.result) (traits_ceiling calls.shown.now.seen.size c.args.store.now.slots)
    (λ file. FindsTraits file c.args.store.now.slots calls.shown.now calls.left.now c.within-found.result) = search of_calls in
    let did = rw (calls.leaves, calls.shows, c.requires.0, end) at (call.known file (rw calls.shows now)) in
    refused_within c.args.limits.budget c.args.limits.headers file c.args.src.now reads.before reads.after c.in-Err-Refused.refusal c.refused_state.result
    (omega (arith, sized, c.length.ensures.value, c.if-length-lt-HEADER_BYTES.false)) c.requires.1 reads.sets (omega (arith, sized, size)) did c.refused_state.ensures

pub returns-in-Ok-clause-finds : goal.returns-in-Ok-clause-finds
returns-in-Ok-clause-finds g c = λ file held.
    let reads = c.within-found.ensures in
    let now = ap (λ (seen : SourceState). seen.file) reads.sets.seen ∙ held in
    let end : c.within-found.result ≡ Ok c.in-Ok.traits = search rules in
    let calls = reads.calls in
    let call : CallDid calls.shown.now calls.left.now (fault_of_result c.within-found.result) (traits_ceiling calls.shown.now.seen.size c.args.store.now.slots)
    (λ file. FindsTraits file c.args.store.now.slots calls.shown.now calls.left.now c.within-found.result) = search of_calls in
    let did = rw (calls.leaves, calls.shows, c.requires.0, end) at (call.known file (rw calls.shows now)) in
    found_within c.args.limits.budget c.args.limits.headers file c.in-Ok.traits reads.before reads.after did
