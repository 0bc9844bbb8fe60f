-- The walk is at a symbol index, and what it finds there is the result of the definition's walk.
use Rattle.std.proofs.Common.{ℕ, ◌+◌, ◌/◌, false, sym, ap, ◌∙◌, arith}
use Rattle.std.proofs.lemmas.Result.{err_from_is_err_and}
use Rattle.elf_model.specs.Bytes.{field}
use Rattle.elf_table.proofs.LedgerLaws.{CallDid-as, CallDid-none, CallDid-stop, CallDid-then}
use Rattle.elf_hash.proofs.GnuSteps.{There, along_next, along_start, bucket_is, chain_is, bytes_next, chained_is, meets_found, meets_last, meets_not_there, meets_unread, meets_untried_here, one_most, room_for, spent_most}
use Rattle.elf_hash.proofs.WalkLaws.{bytes_most, walks}
use Rattle.elf_hash.proofs.gnu_walk.along_chain.Goals as goal

pub loop-at-init : goal.loop-at-init
loop-at-init g c = record {
  few = omega arith;
  rises = omega (arith, c.from-index.ensures);
  begins = λ some. absurd (omega arith);
  fits = omega arith;
  so_far = CallDid-as _ (omega arith) (CallDid-none c.args.src.now)
      (λ file none costs at says is of holds.
      rw (c.from-index.ensures) (along_start file at c.args.hash says _ _ holds (c.bucket_at-at.ensures.value ∙ bucket_is file at _ _ is)));
}

pub returns-in_err-word : goal.returns-in_err-word
returns-in_err-word g c =
    let p = err_from_is_err_and c.from_residual.result c.from_residual.ensures.1 in
    let known = c.loop-at.invariant in
    let lies = c.has.ensures.lies c.loop-at-test.true in
    let room = room_for _ _ _ _ _ _ known.rises known.begins lies.0 lies.2 in
    let most = spent_most _ _ (g.T.Matcher.cost c.args.trial.now) _ false known.few room.1 in
    rw (p.1, p.2)
    (record {
      did = CallDid-as _ (omega (arith, most)) (CallDid-then known.so_far c.in_err-word.ensures)
          (λ file told costs at says is of holds.
          let chained = sym (c.has.ensures.is ∙ chained_is file at _ _ is) ∙ c.loop-at-test.true in
          walks _ 0 _ _ _ _ costs (meets_unread file at c.args.hash says _ _ _ _ _ _ (told.0 at says is of holds) chained _ told.1));
    })

pub returns-in_err-answer : goal.returns-in_err-answer
returns-in_err-answer g c =
    let p = err_from_is_err_and c.from_residual-in_err-answer.result c.from_residual-in_err-answer.ensures.1 in
    let known = c.loop-at.invariant in
    let lies = c.has.ensures.lies c.loop-at-test.true in
    let room = room_for _ _ _ _ _ _ known.rises known.begins lies.0 lies.2 in
    let most = spent_most _ _ (g.T.Matcher.cost c.args.trial.now) _ c.hash_bits_match-is_wanted.result known.few room.1 in
    rw (p.1, p.2)
    (record {
      did = CallDid-as _ (omega (arith, most)) (CallDid-then (CallDid-then known.so_far c.in_ok-word.ensures) c.in_err-answer.ensures)
          (λ file told costs at says is of holds.
          let chained = sym (c.has.ensures.is ∙ chained_is file at _ _ is) ∙ c.loop-at-test.true in
          let word = told.0.1 ∙ ap (λ (p : ℕ). field file p 4) (c.chain_at-at.ensures.value ∙ chain_is file at _ _ is) in
          let t : There file at c.args.hash says c.loop-at.read c.loop-at.tried c.loop-at.index c.in_ok-word.word c.hash_bits_match-is_wanted.result
          = record { place = _; along = told.0.0 at says is of holds; is = chained; word_is = word; of_hash = c.hash_bits_match-is_wanted.ensures } in
          walks _ 0 _ _ _ _ costs (meets_untried_here file at c.args.hash says _ _ _ _ _ _ _ t _ (told.1 says of)));
    })

pub returns-in-Some : goal.returns-in-Some
returns-in-Some g c =
    let known = c.loop-at.invariant in
    let lies = c.has.ensures.lies c.loop-at-test.true in
    let room = room_for _ _ _ _ _ _ known.rises known.begins lies.0 lies.2 in
    let most = spent_most _ _ (g.T.Matcher.cost c.args.trial.now) _ c.hash_bits_match-is_wanted.result known.few room.1 in
    record {
      did = CallDid-as _ (omega (arith, most)) (CallDid-then (CallDid-then known.so_far c.in_ok-word.ensures) (rw c.in-Some.is at c.in_ok-answer.ensures))
          (λ file told costs at says is of holds.
          let chained = sym (c.has.ensures.is ∙ chained_is file at _ _ is) ∙ c.loop-at-test.true in
          let word = told.0.1 ∙ ap (λ (p : ℕ). field file p 4) (c.chain_at-at.ensures.value ∙ chain_is file at _ _ is) in
          let t : There file at c.args.hash says c.loop-at.read c.loop-at.tried c.loop-at.index c.in_ok-word.word c.hash_bits_match-is_wanted.result
          = record { place = _; along = told.0.0 at says is of holds; is = chained; word_is = word; of_hash = c.hash_bits_match-is_wanted.ensures } in
          walks _ 0 _ _ _ _ costs (meets_found file at c.args.hash says _ _ _ _ _ _ _ t _ _ (told.1 says of) (ap (λ (n : ℕ). c.loop-at.tried + n) c.one_where-tried.ensures)));
    }

pub returns-then-is_chain_end : goal.returns-then-is_chain_end
returns-then-is_chain_end g c =
    let known = c.loop-at.invariant in
    let lies = c.has.ensures.lies c.loop-at-test.true in
    let room = room_for _ _ _ _ _ _ known.rises known.begins lies.0 lies.2 in
    let most = spent_most _ _ (g.T.Matcher.cost c.args.trial.now) _ c.hash_bits_match-is_wanted.result known.few room.1 in
    record {
      did = CallDid-as _ (omega (arith, most)) (CallDid-then (CallDid-then known.so_far c.in_ok-word.ensures) c.in_ok-answer.ensures)
          (λ file told costs at says is of holds.
          let chained = sym (c.has.ensures.is ∙ chained_is file at _ _ is) ∙ c.loop-at-test.true in
          let word = told.0.1 ∙ ap (λ (p : ℕ). field file p 4) (c.chain_at-at.ensures.value ∙ chain_is file at _ _ is) in
          let t : There file at c.args.hash says c.loop-at.read c.loop-at.tried c.loop-at.index c.in_ok-word.word c.hash_bits_match-is_wanted.result
          = record { place = _; along = told.0.0 at says is of holds; is = chained; word_is = word; of_hash = c.hash_bits_match-is_wanted.ensures } in
          walks _ 0 _ _ _ _ costs
          (meets_last file at c.args.hash says _ _ _ _ _ _ _ t _ _ (told.1 says of) c.in_default.not-Some (sym c.is_chain_end.ensures ∙ c.if-is_chain_end.true) (ap (λ (n : ℕ). c.loop-at.tried + n) c.one_where-tried.ensures)));
    }

pub loop-at-preserved : goal.loop-at-preserved
loop-at-preserved g c =
    let known = c.loop-at.invariant in
    let lies = c.has.ensures.lies c.loop-at-test.true in
    let room = room_for _ _ _ _ _ _ known.rises known.begins lies.0 lies.2 in
    let most = spent_most _ _ (g.T.Matcher.cost c.args.trial.now) _ c.hash_bits_match-is_wanted.result known.few room.1 in
    let one = one_most c.hash_bits_match-is_wanted.result in
    let few = known.few in
    let rises = known.rises in
    let count = ap (λ (n : ℕ). c.loop-at.tried + n) c.one_where-tried.ensures in
    record {
      few = omega (arith, few, one, c.one_where-tried.ensures);
      rises = omega (arith, rises);
      begins = λ some. room.0;
      fits = room.1;
      so_far = CallDid-as _ (bytes_next 0 _ _ (g.T.Matcher.cost c.args.trial.now) _ c.hash_bits_match-is_wanted.result count) (CallDid-then (CallDid-then known.so_far c.in_ok-word.ensures) c.in_ok-answer.ensures)
          (λ file told costs at says is of holds.
          let chained = sym (c.has.ensures.is ∙ chained_is file at _ _ is) ∙ c.loop-at-test.true in
          let word = told.0.1 ∙ ap (λ (p : ℕ). field file p 4) (c.chain_at-at.ensures.value ∙ chain_is file at _ _ is) in
          let t : There file at c.args.hash says c.loop-at.read c.loop-at.tried c.loop-at.index c.in_ok-word.word c.hash_bits_match-is_wanted.result
          = record { place = _; along = told.0.0 at says is of holds; is = chained; word_is = word; of_hash = c.hash_bits_match-is_wanted.ensures } in
          along_next file at c.args.hash says (g.T.Matcher.is_at c.args.trial.now file) (g.T.Matcher.cost c.args.trial.now) _ _ _ _ _ t _ _ _ (told.1 says of) c.in_default.not-Some
          (sym c.is_chain_end.ensures ∙ c.if-is_chain_end.false) count (c.chain_at-at.ensures.value ∙ chain_is file at _ _ is));
    }

pub returns : goal.returns
returns g c =
    let known = c.loop-at.invariant in
    let few = known.few in
    let fits = known.fits in
    let most = bytes_most 0 c.loop-at.read c.loop-at.tried (c.args.table.now.place.size / 4) (c.args.table.now.place.size / 4) (g.T.Matcher.cost c.args.trial.now) (omega (arith, fits)) (omega (arith, few, fits)) in
    rw c.refused.ensures
    (record {
      did = CallDid-as _ most (CallDid-stop _ (λ budget. cc) known.so_far)
          (λ file along costs at says is of holds.
          let chained = sym (c.has.ensures.is ∙ chained_is file at _ _ is) ∙ c.loop-at-test.false in
          walks _ 0 _ _ _ _ costs (meets_not_there file at c.args.hash says _ _ _ _ _ _ (along at says is of holds) chained));
    })
