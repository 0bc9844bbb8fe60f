-- The load, and what follows.
use Rattle.std.proofs.Common.{ℕ, ◌*◌, ap, arith}
use Rattle.std.proofs.lemmas.Result.{err_from_is_err_and}
use Rattle.elf_table.proofs.LedgerLaws.{CallReads-more, CallReads-then, CallDid-as, CallDid-then}
use Rattle.elf_loader.proofs.FeatureLaws.{product_most, value_of}
use Rattle.elf_loader.proofs.ShownLaws.{ceiling_is, load_least, load_stops, shown_cost, shown_is}
use Rattle.elf_loader.proofs.hardening.shown_traits.Goals as goal

pub returns-in_err-loaded-clause-did : goal.returns-in_err-loaded-clause-did
returns-in_err-loaded-clause-did g c =
    let p = err_from_is_err_and c.from_residual.result c.from_residual.ensures.1 in
    let ceiling = ceiling_is c.args.src.now.seen.size c.args.store.now.slots in
    rw (p.1, p.2)
    (CallDid-as _ (omega (arith, ceiling)) c.in_err-loaded.ensures.did
    (λ file told costs none.
    let load = told none in
    record { costs = CallReads-more _ (load_least file c.args.store.now.slots none) load.costs; finds = load_stops file _ _ c.load_by_segments.new.store load.loads }))

pub returns-clause-did : goal.returns-clause-did
returns-clause-did g c =
    let ceiling = ceiling_is c.args.src.now.seen.size c.args.store.now.slots in
    let first = c.in_ok-loaded.ensures.did in
    let same = first.costs.reads.keeps.same_size in
    let slots = c.load_by_segments.ensures.slots in
    let product = product_most c.load_by_segments.new.store.segments c.args.store.now.slots c.args.src.now.seen.size (omega (arith, c.in_ok-loaded.ensures.fits.few, slots)) in
    let sized = ap (λ (n : ℕ). c.load_by_segments.new.store.segments * n) same in
    CallDid-as _ (omega (arith, ceiling, same, product, sized)) (CallDid-then first c.find_traits_by_segments.ensures)
    (λ file told costs none.
    let load = told.0 none in
    let viewed = told.1 load.loads.1 in
    let cost = shown_cost file c.args.store.now.slots none load.loads.0 in
    record {
      costs = CallReads-then _ (omega (arith, cost)) load.costs viewed.costs;
      finds = value_of _ _ _ (shown_is file c.args.store.now.slots load.loads.0) viewed.finds;
    })
