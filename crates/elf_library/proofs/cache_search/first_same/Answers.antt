-- The entry before has the name, or the first one is found.
use Rattle.std.proofs.Common.{◌-◌, ◌*◌, ◌≡◌, sym, ap, ◌∙◌, arith}
use Rattle.elf_model.specs.Prelude.{first_same, key_order}
use Rattle.elf_table.proofs.LedgerLaws.{CallDid-as, CallDid-then}
use Rattle.elf_library.proofs.SearchLaws.{same-ends, same-first, same-more}
use Rattle.elf_library.proofs.cache_search.first_same.Goals as goal

pub returns-then-not-branch-clause-did : goal.returns-then-not-branch-clause-did
returns-then-not-branch-clause-did g c =
    let first = c.loop-first.first in
    CallDid-as (4120 * c.args.index) (omega (arith, c.loop-first.invariant.most, c.loop-first-test.true)) (CallDid-then c.loop-first.invariant.did c.in_ok-has_name.ensures.did)
    (λ file both costs.
    sym (both.0 ∙ same-ends (key_order file c.args.cache.now c.args.name.now) first (omega (arith, c.loop-first-test.true)) (sym both.1 ∙ c.if-not-branch.true)))

pub loop-first-preserved : goal.loop-first-preserved
loop-first-preserved g c =
    let first = c.loop-first.first in
    record {
      most = omega (arith, c.loop-first.invariant.most, c.loop-first-test.true);
      did = CallDid-as (4120 * (c.args.index - (first - 1))) (omega (arith, c.loop-first.invariant.most, c.loop-first-test.true)) (CallDid-then c.loop-first.invariant.did c.in_ok-has_name.ensures.did)
          (λ file both costs. both.0 ∙ same-more (key_order file c.args.cache.now c.args.name.now) first (omega (arith, c.loop-first-test.true)) (sym both.1 ∙ c.if-not-branch.false));
    }

pub returns-clause-did : goal.returns-clause-did
returns-clause-did g c =
    let last : c.loop-first.first ≡ 0 = omega (arith, c.loop-first-test.false) in
    CallDid-as (4120 * c.args.index) (omega arith) c.loop-first.invariant.did
    (λ file is costs.
    let order = key_order file c.args.cache.now c.args.name.now in
    sym (is ∙ ap (first_same order) last ∙ same-first order))
