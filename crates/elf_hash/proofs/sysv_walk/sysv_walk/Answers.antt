-- The walk is at the word of the current step, and what it finds there is the result of the
-- definition's walk.
use Rattle.std.proofs.Common.{◌+◌, ◌<◌, sym, ◌∙◌, arith}
use Rattle.std.proofs.lemmas.Result.{err_from_is_err_and}
use Rattle.elf_table.proofs.LedgerLaws.{CallDid-as, CallDid-stop, CallDid-then}
use Rattle.elf_hash.proofs.SysvSteps.{along_next, along_start, bucket_is, chain_is, comes, meets_absent, meets_cycle, meets_found, meets_no_index, meets_unread, meets_untried_here}
use Rattle.elf_hash.proofs.WalkLaws.{bytes_most, bytes_step, walks}
use Rattle.elf_hash.proofs.sysv_walk.sysv_walk.Goals as goal

pub loop-index-init : goal.loop-index-init
loop-index-init g c = record {
  few = omega arith;
  so_far = CallDid-as _ (omega arith) c.in_ok-index.ensures
      (λ file read costs at says is of. along_start file at c.args.hash says _ _ (c.bucket_at-bucket.ensures.value ∙ bucket_is file at _ _ is) read);
}

pub returns-then-not-is_index-clause-did : goal.returns-then-not-is_index-clause-did
returns-then-not-is_index-clause-did g c =
    let known = c.loop-index.invariant in
    rw c.refused.ensures
    (CallDid-as _ (bytes_most 4 _ _ _ _ (g.T.Matcher.cost c.args.trial.now) known.few known.few) (CallDid-stop _ (λ budget. cc) known.so_far)
    (λ file along costs at says is of.
    walks _ 4 _ _ _ _ costs
    (meets_no_index file at c.args.hash says _ _ _ _ _ (along at says is of) (omega (arith, c.loop-index-test.true)) (sym (c.is_index.ensures.is file at is) ∙ c.if-not-is_index.true))))

pub returns-then-tried-from-clause-did : goal.returns-then-tried-from-clause-did
returns-then-tried-from-clause-did g c =
    let known = c.loop-index.invariant in
    rw c.refused-then-tried-from.ensures
    (CallDid-as _ (bytes_most 4 _ _ _ _ (g.T.Matcher.cost c.args.trial.now) known.few known.few) (CallDid-stop _ (λ budget. cc) known.so_far)
    (λ file along costs at says is of.
    walks _ 4 _ _ _ _ costs
    (meets_cycle file at c.args.hash says _ _ _ _ _ (along at says is of) _ (c.bucket_at-bucket.ensures.value ∙ bucket_is file at _ _ is)
    (c.if-tried-from.true ∙ (c.from.ensures ∙ is.chains)) (omega (arith, c.loop-index-test.true)) (sym (c.is_index.ensures.is file at is) ∙ c.if-not-is_index.false))))

pub returns-in_err-answer-clause-did : goal.returns-in_err-answer-clause-did
returns-in_err-answer-clause-did g c =
    let p = err_from_is_err_and c.from_residual-in_err-answer.result c.from_residual-in_err-answer.ensures.1 in
    let known = c.loop-index.invariant in
    let few : c.loop-index.tried < c.args.table.now.nchain = omega (arith, known.few, c.if-tried-from.false, c.from.ensures) in
    let step = bytes_step 4 _ _ (g.T.Matcher.cost c.args.trial.now) few in
    rw (p.1, p.2)
    (CallDid-as _ (omega (arith, step)) (CallDid-then known.so_far c.in_err-answer.ensures.did)
    (λ file told costs at says is of.
    let some : 0 < c.loop-index.index = omega (arith, c.loop-index-test.true) in
    let index = sym (c.is_index.ensures.is file at is) ∙ c.if-not-is_index.false in
    let tries = comes file at c.args.hash says _ _ _ (told.0 at says is of) some index (omega (arith, few, is.chains)) in
    walks _ 4 _ _ _ _ costs
    (meets_untried_here file at c.args.hash says _ _ _ _ tries _ _ c.from-in-loop-index.ensures (told.1 says of))))

pub returns-in-Some-clause-did : goal.returns-in-Some-clause-did
returns-in-Some-clause-did g c =
    let known = c.loop-index.invariant in
    let few : c.loop-index.tried < c.args.table.now.nchain = omega (arith, known.few, c.if-tried-from.false, c.from.ensures) in
    let step = bytes_step 4 _ _ (g.T.Matcher.cost c.args.trial.now) few in
    rw (c.stepped.ensures, c.found_at.ensures)
    (CallDid-as _ (omega (arith, step)) (CallDid-then known.so_far (rw c.in-Some.is at c.in_ok-answer.ensures.did))
    (λ file told costs at says is of.
    let some : 0 < c.loop-index.index = omega (arith, c.loop-index-test.true) in
    let index = sym (c.is_index.ensures.is file at is) ∙ c.if-not-is_index.false in
    let tries = comes file at c.args.hash says _ _ _ (told.0 at says is of) some index (omega (arith, few, is.chains)) in
    walks _ 4 _ _ _ _ costs
    (meets_found file at c.args.hash says _ _ _ _ tries _ _ c.from-in-loop-index.ensures (told.1 says of))))

pub returns-in_err-index-2-clause-did : goal.returns-in_err-index-2-clause-did
returns-in_err-index-2-clause-did g c =
    let p = err_from_is_err_and c.from_residual-in_err-index-2.result c.from_residual-in_err-index-2.ensures.1 in
    let known = c.loop-index.invariant in
    let few : c.loop-index.tried < c.args.table.now.nchain = omega (arith, known.few, c.if-tried-from.false, c.from.ensures) in
    let step = bytes_step 4 _ _ (g.T.Matcher.cost c.args.trial.now) few in
    rw (p.1, p.2)
    (CallDid-as _ (omega (arith, step)) (CallDid-then (CallDid-then known.so_far c.in_ok-answer.ensures.did) c.in_err-index-2.ensures)
    (λ file told costs at says is of.
    let some : 0 < c.loop-index.index = omega (arith, c.loop-index-test.true) in
    let index = sym (c.is_index.ensures.is file at is) ∙ c.if-not-is_index.false in
    let tries = comes file at c.args.hash says _ _ _ (told.0.0 at says is of) some index (omega (arith, few, is.chains)) in
    walks _ 4 _ _ _ _ costs (meets_unread file at c.args.hash says _ _ _ _ tries _ told.1)))

pub loop-index-preserved : goal.loop-index-preserved
loop-index-preserved g c =
    let known = c.loop-index.invariant in
    let few : c.loop-index.tried < c.args.table.now.nchain = omega (arith, known.few, c.if-tried-from.false, c.from.ensures) in
    let step = bytes_step 4 c.loop-index.tried (c.loop-index.tried + 1) (g.T.Matcher.cost c.args.trial.now) (omega arith) in
    record {
      few = omega (arith, few);
      so_far = CallDid-as _ (omega (arith, step)) (CallDid-then (CallDid-then known.so_far c.in_ok-answer.ensures.did) c.in_ok-index-2.ensures)
          (λ file told costs at says is of.
          let some : 0 < c.loop-index.index = omega (arith, c.loop-index-test.true) in
          let index = sym (c.is_index.ensures.is file at is) ∙ c.if-not-is_index.false in
          let tries = comes file at c.args.hash says _ _ _ (told.0.0 at says is of) some index (omega (arith, few, is.chains)) in
          along_next file at c.args.hash says (g.T.Matcher.is_at c.args.trial.now file) (g.T.Matcher.cost c.args.trial.now) _ _ tries _ _ _ _
          c.from-in-loop-index.ensures (told.0.1 says of) c.in_default.not-Some (c.chain_at-at.ensures ∙ chain_is file at _ _ is) told.1);
    }

pub returns-clause-did : goal.returns-clause-did
returns-clause-did g c =
    let known = c.loop-index.invariant in
    rw c.stepped-2.ensures
    (CallDid-as _ (bytes_most 4 _ _ _ _ (g.T.Matcher.cost c.args.trial.now) known.few known.few) known.so_far
    (λ file along costs at says is of. walks _ 4 _ _ _ _ costs (meets_absent file at c.args.hash says _ _ _ _ _ (along at says is of) c.loop-index-test.false)))
