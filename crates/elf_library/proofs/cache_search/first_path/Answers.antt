-- An entry with another name ends them, and one that gives a path is the first.
use Rattle.std.proofs.Common.{◌+◌, ◌-◌, ◌*◌, ◌≡◌, sym, ap, ◌∙◌, arith}
use Rattle.elf_model.specs.Prelude.{first_path, key_order}
use Rattle.elf_table.proofs.LedgerLaws.{CallDid-as, CallDid-then}
use Rattle.elf_library.proofs.SearchLaws.{path-ends, path-found, path-more, path-other}
use Rattle.elf_library.proofs.cache_search.first_path.Goals as goal

pub returns-then-not-branch-clause-did : goal.returns-then-not-branch-clause-did
returns-then-not-branch-clause-did g c =
    let at = c.loop-index.index in
    let among = c.args.among in
    CallDid-as (8240 * (among.1 - among.0)) (omega (arith, c.loop-index.invariant.least, c.loop-index-test.true)) (CallDid-then c.loop-index.invariant.did c.in_ok-has_name.ensures.did)
    (λ file both costs.
    both.0 ∙ path-other (key_order file c.args.cache.now c.args.name.now) file c.args.cache.now at (among.1 - at) (omega (arith, c.loop-index-test.true)) (sym both.1 ∙ c.if-not-branch.true))

pub returns-then-branch-clause-did : goal.returns-then-branch-clause-did
returns-then-branch-clause-did g c =
    let at = c.loop-index.index in
    let among = c.args.among in
    CallDid-as (8240 * (among.1 - among.0)) (omega (arith, c.loop-index.invariant.least, c.loop-index-test.true))
    (CallDid-then (CallDid-then c.loop-index.invariant.did c.in_ok-has_name.ensures.did) c.in_ok-read_path.ensures.did)
    (λ file both costs.
    both.0.0
    ∙ path-found (key_order file c.args.cache.now c.args.name.now) file c.args.cache.now at (among.1 - at) c.read_path.new.text (omega (arith, c.loop-index-test.true)) (sym both.0.1 ∙ c.if-not-branch.false)
    (rw (c.if-branch.true) at both.1))

pub loop-index-preserved : goal.loop-index-preserved
loop-index-preserved g c =
    let at = c.loop-index.index in
    let among = c.args.among in
    record {
      least = omega (arith, c.loop-index.invariant.least);
      most = omega (arith, c.loop-index-test.true);
      did = CallDid-as (8240 * (at + 1 - among.0)) (omega (arith, c.loop-index.invariant.least))
          (CallDid-then (CallDid-then c.loop-index.invariant.did c.in_ok-has_name.ensures.did) c.in_ok-read_path.ensures.did)
          (λ file both costs.
          let order = key_order file c.args.cache.now c.args.name.now in
          let left : among.1 - at - 1 ≡ among.1 - (at + 1) = omega arith in
          both.0.0
          ∙ path-more order file c.args.cache.now at (among.1 - at) (omega (arith, c.loop-index-test.true)) (sym both.0.1 ∙ c.if-not-branch.false) (rw (c.if-branch.false) at both.1)
          ∙ ap (first_path file c.args.cache.now order (at + 1)) left);
    }

pub returns-clause-did : goal.returns-clause-did
returns-clause-did g c =
    let at = c.loop-index.index in
    let among = c.args.among in
    let none : among.1 - at ≡ 0 = omega (arith, c.loop-index-test.false) in
    CallDid-as (8240 * (among.1 - among.0)) (omega (arith, c.loop-index.invariant.least, c.loop-index.invariant.most)) c.loop-index.invariant.did
    (λ file is costs.
    let order = key_order file c.args.cache.now c.args.name.now in
    is ∙ ap (first_path file c.args.cache.now order at) none ∙ path-ends order file c.args.cache.now at)
