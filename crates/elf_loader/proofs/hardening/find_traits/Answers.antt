-- The traits by the segments, and the stack by the sections.
use Rattle.std.proofs.Common.{ℕ, ◌*◌, ◌+◌, sym, ap, ◌∙◌, arith}
use Rattle.std.proofs.lemmas.Result.{err_from_is_err_and}
use Rattle.elf_table.proofs.LedgerLaws.{CallDid-as, CallDid-then, CallReads-more, CallReads-then}
use Rattle.elf_loader.proofs.StackLaws.{ceiling_split, cost_least, cost_stacked, stack_stops, traits_alone, traits_stacked, traits_stop}
use Rattle.elf_loader.proofs.hardening.find_traits.Goals as goal

pub returns-in_err-traits-clause-did : goal.returns-in_err-traits-clause-did
returns-in_err-traits-clause-did g c =
    let p = err_from_is_err_and c.from_residual.result c.from_residual.ensures.1 in
    let ceiling = ceiling_split c.args.src.now.seen.size c.args.store.now.slots in
    rw (p.1, p.2)
    (CallDid-as _ (omega (arith, ceiling)) c.in_err-traits.ensures.did
    (λ file told costs. record { costs = CallReads-more _ (cost_least file c.args.store.now.slots) told.costs; finds = traits_stop file c.args.store.now.slots _ told.finds }))

pub returns-then-not-is_relocatable-clause-did : goal.returns-then-not-is_relocatable-clause-did
returns-then-not-is_relocatable-clause-did g c =
    let ceiling = ceiling_split c.args.src.now.seen.size c.args.store.now.slots in
    CallDid-as _ (omega (arith, ceiling)) c.in_ok-traits.ensures.did
    (λ file told costs. record {
      costs = CallReads-more _ (cost_least file c.args.store.now.slots) told.costs;
      finds = traits_alone file c.args.store.now.slots _ told.finds (sym c.is_relocatable.ensures ∙ c.if-not-is_relocatable.true);
    })

pub returns-in_err-stack-clause-did : goal.returns-in_err-stack-clause-did
returns-in_err-stack-clause-did g c =
    let p = err_from_is_err_and c.from_residual-in_err-stack.result c.from_residual-in_err-stack.ensures.1 in
    let ceiling = ceiling_split c.args.src.now.seen.size c.args.store.now.slots in
    let slots = c.in_ok-traits.ensures.slots in
    rw (p.1, p.2)
    (CallDid-as _ (omega (arith, ceiling, slots)) (CallDid-then c.in_ok-traits.ensures.did c.in_err-stack.ensures.did)
    (λ file told costs.
    let second = rw slots at told.1 in
    let object = sym c.is_relocatable.ensures ∙ c.if-not-is_relocatable.false in
    let cost = cost_stacked file c.args.store.now.slots _ told.0.finds object in
    record { costs = CallReads-then _ (omega (arith, cost)) told.0.costs second.costs; finds = stack_stops _ _ second.finds }))

pub returns-clause-did : goal.returns-clause-did
returns-clause-did g c =
    let ceiling = ceiling_split c.args.src.now.seen.size c.args.store.now.slots in
    let slots = c.in_ok-traits.ensures.slots in
    CallDid-as _ (omega (arith, ceiling, slots)) (CallDid-then c.in_ok-traits.ensures.did c.in_ok-stack.ensures.did)
    (λ file told costs.
    let second = rw slots at told.1 in
    let object = sym c.is_relocatable.ensures ∙ c.if-not-is_relocatable.false in
    let cost = cost_stacked file c.args.store.now.slots _ told.0.finds object in
    record { costs = CallReads-then _ (omega (arith, cost)) told.0.costs second.costs; finds = traits_stacked file c.args.store.now.slots _ _ told.0.finds object second.finds })
