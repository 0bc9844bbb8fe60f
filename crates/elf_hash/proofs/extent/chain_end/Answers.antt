-- The chain continues at a symbol, or ends there.
use Rattle.std.proofs.Common.{◌≡◌, suc, ◌+◌, sym, ap, ◌∙◌, arith}
use Rattle.std.proofs.lemmas.Result.{err_from_is_err_and}
use Rattle.elf_model.specs.GnuHash.{is_chain_end}
use Rattle.elf_table.proofs.LedgerLaws.{CallDid-as, CallDid-then}
use Rattle.elf_hash.specs.Extents.{last_in}
use Rattle.elf_hash.proofs.GnuSteps.{chained_is}
use Rattle.elf_hash.proofs.ExtentLaws.{ends_there, goes_on, last_above, last_here, last_more, last_past, not_chained, word_is}
use Rattle.elf_hash.proofs.extent.chain_end.Goals as goal

pub returns-then-not-has-clause-did : goal.returns-then-not-has-clause-did
returns-then-not-has-clause-did g c =
    let i = c.chain.invariant in
    let fits = i.fits in
    let rises = i.rises in
    let next = c.next_below.ensures in
    CallDid-as _ (omega (arith, fits)) i.so_far
    (λ file told costs at is.
    let same = told at is in
    let isnt = sym (c.has.ensures.is ∙ chained_is file at _ _ is) ∙ c.if-not-has.true in
    let last = last_here file at c.chain.index (omega (arith, c.chain-test.true, is.place.symbols)) (not_chained file at c.chain.index isnt) in
    record { costs = costs _ (omega (arith, same, last, rises)); tells = omega (arith, same, last, next) })

pub returns-in_err-word-clause-did : goal.returns-in_err-word-clause-did
returns-in_err-word-clause-did g c =
    let p = err_from_is_err_and c.from_residual.result c.from_residual.ensures.1 in
    let i = c.chain.invariant in
    let fits = i.fits in
    let rises = i.rises in
    let lies = c.has.ensures.lies c.if-not-has.false in
    rw (p.1, p.2)
    (CallDid-as _ (omega (arith, fits, rises, lies.0, lies.2, c.requires.first)) (CallDid-then i.so_far c.in_err-word.ensures)
    (λ file told costs at is.
    let same = told.0 at is in
    let above = last_above file at c.chain.index (omega (arith, c.chain-test.true, is.place.symbols)) in
    record { costs = costs _ (omega (arith, same, above, rises)); tells = told.1 }))

pub returns-then-is_chain_end-clause-did : goal.returns-then-is_chain_end-clause-did
returns-then-is_chain_end-clause-did g c =
    let i = c.chain.invariant in
    let fits = i.fits in
    let rises = i.rises in
    let lies = c.has.ensures.lies c.if-not-has.false in
    CallDid-as _ (omega (arith, fits, rises, lies.0, lies.2, c.requires.first)) (CallDid-then i.so_far c.in_ok-word.ensures)
    (λ file told costs at is.
    let same = told.0 at is in
    let chained = sym (c.has.ensures.is ∙ chained_is file at _ _ is) ∙ c.if-not-has.false in
    let word = word_is file at _ _ _ _ is c.chain_at.ensures.value told.1 in
    let ends = ap is_chain_end (sym word) ∙ (sym c.is_chain_end.ensures ∙ c.if-is_chain_end.true) in
    let last = last_here file at c.chain.index (omega (arith, c.chain-test.true, is.place.symbols)) (ends_there file at c.chain.index chained ends) in
    record { costs = costs _ (omega (arith, same, last, rises)); tells = omega (arith, same, last) })

pub chain-preserved : goal.chain-preserved
chain-preserved g c =
    let i = c.chain.invariant in
    let fits = i.fits in
    let rises = i.rises in
    let lies = c.has.ensures.lies c.if-not-has.false in
    record {
      rises = omega (arith, rises);
      within = omega (arith, rises, i.within, c.chain-test.true);
      fits = omega (arith, fits, rises, lies.0, lies.2, c.requires.first);
      so_far = CallDid-as _ (omega (arith, rises)) (CallDid-then i.so_far c.in_ok-word.ensures)
          (λ file told costs at is.
          let same = told.0 at is in
          let chained = sym (c.has.ensures.is ∙ chained_is file at _ _ is) ∙ c.if-not-has.false in
          let word = word_is file at _ _ _ _ is c.chain_at.ensures.value told.1 in
          let more = ap is_chain_end (sym word) ∙ (sym c.is_chain_end.ensures ∙ c.if-is_chain_end.false) in
          let on : suc c.chain.index ≡ c.chain.index + 1 = omega arith in
          same ∙ (last_more file at c.chain.index (omega (arith, c.chain-test.true, is.place.symbols)) (goes_on file at c.chain.index chained more) ∙ ap (last_in file at) on));
    }

pub returns-clause-did : goal.returns-clause-did
returns-clause-did g c =
    let i = c.chain.invariant in
    let fits = i.fits in
    let rises = i.rises in
    let within = i.within in
    CallDid-as _ (omega (arith, fits)) i.so_far
    (λ file told costs at is.
    let same = told at is in
    let last = last_past file at c.chain.index (omega (arith, c.chain-test.false, is.place.symbols)) in
    record { costs = costs _ (omega (arith, same, last, rises, within, c.chain-test.false, is.place.symbols)); tells = omega (arith, same, last, is.place.symbols) })
