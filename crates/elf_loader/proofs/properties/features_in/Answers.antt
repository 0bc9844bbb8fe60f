-- Each property is read and passed, until none is left.
use Rattle.std.proofs.Common.{◌+◌, ap, sym, ◌∙◌, arith, Ok}
use Rattle.std.proofs.lemmas.Result.{err_from_is_err_and}
use Rattle.elf_table.proofs.LedgerLaws.{CallDid-as, CallDid-none, CallDid-sized, CallDid-then}
use Rattle.elf_loader.proofs.PropertyLaws.{left_all, left_more, left_none, word_end}
use Rattle.elf_loader.proofs.TraitReadLaws.{head_tells, read_tells}
use Rattle.elf_loader.proofs.properties.features_in.Goals as goal

pub properties-init : goal.properties-init
properties-init g c = record {
  within = omega arith;
  so_far = CallDid-as _ (omega arith) (CallDid-sized (CallDid-none c.args.src.now)) (λ file told costs. left_all file c.args.at c.args.size (omega (arith, told.0, c.requires)));
}

pub returns-in_err-head : goal.returns-in_err-head
returns-in_err-head g c =
    let i = c.properties.invariant in
    let p = err_from_is_err_and c.from_residual.result c.from_residual.ensures.1 in
    let below = c.properties-test.true in
    rw (p.1, p.2)
    (CallDid-as _ (omega arith) (CallDid-then i.so_far c.in_err-head.ensures.did)
    (λ file told costs. head_tells file c.args.at c.args.size c.properties.done c.properties.found below told.0 _ told.1))

pub returns-in_err-found : goal.returns-in_err-found
returns-in_err-found g c =
    let i = c.properties.invariant in
    let p = err_from_is_err_and c.from_residual-in_err-found.result c.from_residual-in_err-found.ensures.1 in
    let below = c.properties-test.true in
    let fits = c.in_ok-head.ensures.fits in
    rw (p.1, p.2)
    (CallDid-as _ (omega arith) (CallDid-then (CallDid-then i.so_far c.in_ok-head.ensures.did) c.in_err-found.ensures)
    (λ file told costs. read_tells file (c.args.at + c.properties.done) c.in_ok-head.head c.properties.found _ _ told.1))

pub properties-preserved : goal.properties-preserved
properties-preserved g c =
    let i = c.properties.invariant in
    let below = c.properties-test.true in
    let fits = c.in_ok-head.ensures.fits in
    let padded = c.padded.ensures in
    record {
      within = omega arith;
      so_far = CallDid-as _ (omega arith) (CallDid-then (CallDid-then i.so_far c.in_ok-head.ensures.did) c.in_ok-found.ensures)
          (λ file told costs.
          left_more file c.args.at c.args.size c.properties.done c.properties.found below _ _ (c.properties.done + c.min-done.result) _ told.0.0 told.0.1 (omega arith) (omega arith) (omega (arith, padded)) told.1);
    }

pub returns : goal.returns
returns g c =
    let i = c.properties.invariant in
    CallDid-as _ (omega arith) (CallDid-sized i.so_far)
    (λ file told costs.
    left_none file c.args.at c.args.size c.properties.done c.properties.found (omega (arith, told.0, c.requires)) (omega (arith, c.properties-test.false, i.within)) told.1
    ∙ ap Ok (word_end c.properties.found ∙ sym c.unwrap_or.ensures))
