-- The range, and its bytes.
use Rattle.std.proofs.Common.{ℕ, ◌+◌, Ok, Some, ap, refl, ◌∙◌, arith}
use Rattle.std.proofs.lemmas.Result.{err_from_is_err_and}
use Rattle.elf_source.proofs.GrowthLaws.{grows_not}
use Rattle.elf_reloc.specs.Queried.{query_as, range_as, some_range}
use Rattle.elf_reloc.proofs.BudgetSteps.{fault_applies, fault_wants, says_after, says_wants, spends_reads, spends_then, wants_after}
use Rattle.elf_reloc.proofs.WrittenSteps.{ceiling_is, cost_found, cost_is, unfound, written}
use Rattle.elf_reloc.proofs.section_bytes.write_within.Goals as goal

pub returns-in_err-range-clause-writes : goal.returns-in_err-range-clause-writes
returns-in_err-range-clause-writes g c =
    let p = err_from_is_err_and c.from_residual.result c.from_residual.ensures.1 in
    let slots : ℕ = c.args.store.now.slots in
    let query = query_as c.args.query.now in
    let did = c.in_err-range.ensures.did in
    let most = ceiling_is c.args.src.now.seen.size slots query in
    record {
      says = rw (p.1, p.2) (fault_applies c.args.src.now c.find_range.new.src c.args.out.now _ _ c.in_err-range.field-0.0 (omega (arith, most)) did.costs.says);
      text = λ file held. rw (p.1, p.2) (unfound file slots query c.args.out.now c.in_err-range.field-0.0 (did.known file held).finds);
      enough = λ file held.
          let cost = cost_is file slots query in
          rw (p.1, p.2) (fault_wants c.args.src.now c.find_range.new.src _ _ c.args.out.now c.in_err-range.field-0.0 (omega (arith, cost)) (did.known file held).costs.says);
      cost = λ file held. let cost = cost_is file slots query in omega (arith, cost, (did.known file held).costs.reads.at_most);
      reads = spends_reads _ did.costs.reads (omega (arith, most, did.costs.reads.at_most));
      grows = grows_not _;
      wrote = omega arith;
    }

pub returns-in_default-clause-writes : goal.returns-in_default-clause-writes
returns-in_default-clause-writes g c =
    let slots : ℕ = c.args.store.now.slots in
    let query = query_as c.args.query.now in
    let did = c.in_ok-range.ensures.did in
    let most = ceiling_is c.args.src.now.seen.size slots query in
    record {
      says = tt;
      text = λ file held. ((did.known file held).finds ∙ ap (λ found. Ok (some_range found)) c.in_default.is, refl);
      enough = λ file held. tt;
      cost = λ file held. let cost = cost_is file slots query in omega (arith, cost, (did.known file held).costs.reads.at_most);
      reads = spends_reads _ did.costs.reads (omega (arith, most, did.costs.reads.at_most));
      grows = grows_not _;
      wrote = omega arith;
    }

pub returns-in_err-write_range-clause-writes : goal.returns-in_err-write_range-clause-writes
returns-in_err-write_range-clause-writes g c =
    let p = err_from_is_err_and c.from_residual-in_err-write_range.result c.from_residual-in_err-write_range.ensures.1 in
    let slots : ℕ = c.args.store.now.slots in
    let query = query_as c.args.query.now in
    let did = c.in_ok-range.ensures.did in
    let most = ceiling_is c.args.src.now.seen.size slots query in
    let ends = rw c.in-Some.is at c.in_ok-range.ensures.within in
    let within = ends.within in
    record {
      says =
          rw (p.1, p.2) (says_after c.write_range.new.src c.write_range.new.out _ _ _ did.costs.reads (omega (arith, most, within, did.costs.reads.at_most, did.costs.reads.keeps.same_size)) c.in_err-write_range.ensures.says);
      text = λ file held.
          let found = (did.known file held).finds ∙ ap (λ found. Ok (some_range found)) c.in-Some.is in
          rw (p.1, p.2) (written file slots query _ _ c.in-Some.range c.write_range.result _ found (c.in_err-write_range.ensures.text file (did.costs.reads.keeps.same_file ∙ held)));
      enough = λ file held.
          let found = (did.known file held).finds ∙ ap (λ found. Ok (some_range found)) c.in-Some.is in
          let cost = cost_found file slots query (Some c.in-Some.range) found c.in-Some.range.1 refl in
          rw (p.1, p.2) (wants_after _ _ _ did.costs.reads (omega (arith, cost, (did.known file held).costs.reads.at_most))
          (says_wants c.find_range.new.src c.write_range.new.src c.write_range.new.out _ _ c.in_err-write_range.ensures.says));
      cost = λ file held.
          let found = (did.known file held).finds ∙ ap (λ found. Ok (some_range found)) c.in-Some.is in
          let cost = cost_found file slots query (Some c.in-Some.range) found c.in-Some.range.1 refl in
          omega (arith, cost, (did.known file held).costs.reads.at_most, c.write_range.ensures.reads.at_most);
      reads = spends_then _ did.costs.reads c.write_range.ensures.reads (omega (arith, most, within, did.costs.reads.at_most, did.costs.reads.keeps.same_size, c.write_range.ensures.reads.at_most));
      grows = c.write_range.ensures.grows;
      wrote = omega (arith, within, did.costs.reads.keeps.same_size, c.in_err-write_range.ensures.wrote);
    }

pub returns-clause-writes : goal.returns-clause-writes
returns-clause-writes g c =
    let slots : ℕ = c.args.store.now.slots in
    let query = query_as c.args.query.now in
    let did = c.in_ok-range.ensures.did in
    let most = ceiling_is c.args.src.now.seen.size slots query in
    let ends = rw c.in-Some.is at c.in_ok-range.ensures.within in
    let within = ends.within in
    record {
      says = tt;
      text = λ file held.
          let found = (did.known file held).finds ∙ ap (λ found. Ok (some_range found)) c.in-Some.is in
          (range_as c.in-Some.range, found, c.in_ok-write_range.ensures.text file (did.costs.reads.keeps.same_file ∙ held));
      enough = λ file held. tt;
      cost = λ file held.
          let found = (did.known file held).finds ∙ ap (λ found. Ok (some_range found)) c.in-Some.is in
          let cost = cost_found file slots query (Some c.in-Some.range) found c.in-Some.range.1 refl in
          omega (arith, cost, (did.known file held).costs.reads.at_most, c.write_range.ensures.reads.at_most);
      reads = spends_then _ did.costs.reads c.write_range.ensures.reads (omega (arith, most, within, did.costs.reads.at_most, did.costs.reads.keeps.same_size, c.write_range.ensures.reads.at_most));
      grows = c.write_range.ensures.grows;
      wrote = omega (arith, within, did.costs.reads.keeps.same_size, c.in_ok-write_range.ensures.wrote);
    }
