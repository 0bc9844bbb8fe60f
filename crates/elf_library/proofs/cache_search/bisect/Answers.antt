-- Each step halves what is left, or ends the search.
use Rattle.std.proofs.Common.{ℕ, ◌+◌, ◌-◌, ◌*◌, ◌/◌, ◌<◌, ◌≡◌, Some, sym, ap, ◌∙◌, arith, rules}
use Rattle.std.specs.declared.cmp.Ordering.{Ordering}
use Rattle.std.specs.declared.cmp.Ordering.TheVariants.{Less, Greater}
use Rattle.elf_model.specs.Prelude.{bisected, key_order}
use Rattle.elf_table.proofs.LedgerLaws.{CallDid-as, CallDid-then}
use Rattle.elf_library.proofs.SearchLaws.{bisected-ends, bisected-equal, bisected-greater, bisected-less, bisected-none, bisected-outside}
use Rattle.elf_library.proofs.cache_search.bisect.Goals as goal
use Rattle.elf_library.proofs.cache_search.bisect.Goals.{in-Some-Less, in-Some-Greater}

pub returns-then-low-high-clause-did : goal.returns-then-low-high-clause-did
returns-then-low-high-clause-did g c =
    let l = c.loop-step in
    CallDid-as 131840 (omega (arith, c.loop-step-test.true)) l.invariant.did
    (λ file is costs. is ∙ bisected-none (key_order file c.args.cache.now c.args.name.now) (32 - l._step) l.low l.high (omega (arith, c.if-low-high.true)))

pub returns-in-None-clause-did : goal.returns-in-None-clause-did
returns-in-None-clause-did g c =
    let l = c.loop-step in
    CallDid-as 131840 (omega (arith, c.loop-step-test.true)) (CallDid-then l.invariant.did c.in_ok-compare_key.ensures.did)
    (λ file both costs.
    both.0
    ∙ bisected-outside (key_order file c.args.cache.now c.args.name.now) (32 - l._step) l.low l.high (omega (arith, c.loop-step-test.true)) (omega (arith, c.if-low-high.false))
    (sym both.1 ∙ c.in-None.is))

pub returns-in-Some-Equal-clause-did : goal.returns-in-Some-Equal-clause-did
returns-in-Some-Equal-clause-did g c =
    let l = c.loop-step in
    CallDid-as 131840 (omega (arith, c.loop-step-test.true)) (CallDid-then l.invariant.did c.in_ok-compare_key.ensures.did)
    (λ file both costs.
    both.0
    ∙ bisected-equal (key_order file c.args.cache.now c.args.name.now) (32 - l._step) l.low l.high (omega (arith, c.loop-step-test.true)) (omega (arith, c.if-low-high.false))
    (sym both.1 ∙ c.in-Some-Equal.is ∙ ap (λ (o : Ordering). Some o) c.in-Some-Equal.field-0-is))

pub loop-step-preserved : goal.loop-step-preserved
loop-step-preserved g c =
    let l = c.loop-step in
    let both = CallDid-then l.invariant.did c.in_ok-compare_key.ensures.did in
    let more : 0 < 32 - l._step = omega (arith, c.loop-step-test.true) in
    let some : l.low < l.high = omega (arith, c.if-low-high.false) in
    let next : 32 - l._step - 1 ≡ 32 - (l._step + 1) = omega arith in
    elim c.match-this.branch [
      | in-Some-Less w ↦ let less : c.in_ok-compare_key.field-0 ≡ Some Less = search rules in
          record {
            high = omega (arith, w.high-is, l.invariant.high);
            did = CallDid-as (4120 * (l._step + 1)) (omega arith) both
                (λ file told costs.
                let order = key_order file c.args.cache.now c.args.name.now in
                rw (w.low-is, w.high-is)
                (told.0 ∙ bisected-less order (32 - l._step) l.low l.high more some (sym told.1 ∙ less)
                ∙ ap (λ (n : ℕ). bisected order n ((l.low + l.high - 1) / 2 + 1) l.high) next));
          }
      | in-Some-Greater w ↦ let greater : c.in_ok-compare_key.field-0 ≡ Some Greater = search rules in
          record {
            high = omega (arith, w.high-is, l.invariant.high, some);
            did = CallDid-as (4120 * (l._step + 1)) (omega arith) both
                (λ file told costs.
                let order = key_order file c.args.cache.now c.args.name.now in
                rw (w.low-is, w.high-is)
                (told.0 ∙ bisected-greater order (32 - l._step) l.low l.high more some (sym told.1 ∙ greater)
                ∙ ap (λ (n : ℕ). bisected order n l.low ((l.low + l.high - 1) / 2)) next));
          }
    ]

pub returns-clause-did : goal.returns-clause-did
returns-clause-did g c =
    let l = c.loop-step in
    let none : 32 - l._step ≡ 0 = omega (arith, c.loop-step-test.false) in
    CallDid-as 131840 (omega (arith, c.loop-step.auto._step-end)) l.invariant.did
    (λ file is costs.
    let order = key_order file c.args.cache.now c.args.name.now in
    is ∙ ap (λ (n : ℕ). bisected order n l.low l.high) none ∙ bisected-ends order l.low l.high)
