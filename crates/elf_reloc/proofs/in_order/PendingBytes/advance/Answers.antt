use Rattle.std.proofs.Common.{rules, [], sym, ap, ◌∙◌, ◌+◌, ◌-◌, ◌≤◌, ◌++◌, arith, length, length-drop, length-take, min, List, ℕ, ◌≡◌, take, Err}
use Rattle.std.proofs.lemmas.Result.{err_from_is_err_and}
use Rattle.elf_source.proofs.PutsLaws.{SinkTakes-then}
use Rattle.elf_source.proofs.ReadsLaws.{ReadsUpTo-none, ReadsUpTo-to}
use Rattle.elf_model.specs.Bytes.{slice}
use Rattle.elf_reloc.proofs.InOrderSteps.{midway_skip, midway_jump, front_part, slice_split, all_gone, gone_text, writes_then, writes_as, front_more}
use Rattle.elf_reloc.proofs.WindowSteps.{front_written, stopping, takes_as}
use Rattle.elf_source.proofs.GrowthLaws.{grows_put, grows_then}
use Rattle.elf_model.proofs.Slices.{slice-size}
use Rattle.elf_reloc.proofs.in_order.PendingBytes.advance.Goals as goal

pub release-requires-clause-few : goal.release-requires-clause-few
release-requires-clause-few g c = omega (arith, c.min-ready.ensures, c.low.ensures, c.len.ensures.value)

pub release-requires-clause-fits : goal.release-requires-clause-fits
release-requires-clause-fits g c = omega (arith, c.min-ready.ensures, c.low.ensures, c.len.ensures.value)

pub copy-requires : goal.copy-requires
copy-requires g c = record { free = c.requires.may.free; within = omega (arith, c.requires.may.within, c.if-low-end.true); fits = c.requires.may.fits }

pub jump-requires : goal.jump-requires
jump-requires g c =
    all_gone [] 0 0 [] c.args.self.now c.release.new.self c.min-ready.result c.args.end c.low-low.result (omega (arith, c.min-ready.ensures, c.low.ensures, c.len.ensures.value)) c.requires.low c.release.ensures.rest.low c.release.ensures.rest.bytes c.low-low.ensures c.if-low-end.true

pub overflow_add-at : goal.overflow_add-at
overflow_add-at g c = omega (arith, c.requires.may.within, c.requires.may.fits, c.if-low-end.true)

pub returns-in_err-release-clause-did : goal.returns-in_err-release-clause-did
returns-in_err-release-clause-did g c =
    let p = err_from_is_err_and c.from_residual.result c.from_residual.ensures.1 in
    record {
      says = search (rules, stopping);
      reads = ReadsUpTo-none _ _;
      grows = grows_put _ _ c.release.ensures.puts;
      wrote = rw p.1 (omega (arith, front_written _ _ _ c.in_err-release.ensures.puts.0, length-take c.min-ready.result c.args.self.now.bytes, c.min-ready.ensures, c.low.ensures, c.len.ensures.value));
    }

pub returns-in_err-release-clause-text : goal.returns-in_err-release-clause-text
returns-in_err-release-clause-text g c = λ size within file held now long midway.
    let p = err_from_is_err_and c.from_residual.result c.from_residual.ensures.1 in
    let k : ℕ = c.min-ready.result in
    let low : ℕ = c.args.self.now.low in
    let few : k ≤ length c.args.self.now.bytes = omega (arith, c.min-ready.ensures, c.len.ensures.value) in
    let less : k ≤ c.args.end - low = omega (arith, c.min-ready.ensures, c.low.ensures) in
    let puts = c.in_err-release.ensures.puts in
    let part = front_part (slice file c.args.at size) now c.args.self.now k few midway in
    let rest : ℕ = c.args.end - low - k in (
      rw (p.1, p.2) (front_more _ _ (slice now low (c.args.end - low)) (take k c.args.self.now.bytes) (slice now (low + k) rest)
          (slice_split now low (c.args.end - low) k rest (omega (arith, less)) ∙ ap (λ l. l ++ slice now (low + k) rest) (sym part)) puts.0),
      rw p.1 tt,
    )

pub returns-in_err-copy-clause-did : goal.returns-in_err-copy-clause-did
returns-in_err-copy-clause-did g c =
    let p = err_from_is_err_and c.from_residual-in_err-copy.result c.from_residual-in_err-copy.ensures.1 in
    let did = c.in_err-copy.ensures.did in
    record {
      says = search (rules, stopping);
      reads = ReadsUpTo-to did.reads (omega (arith, did.reads.at_most, c.min-ready.ensures, c.low.ensures, c.len.ensures.value, c.low-low.ensures, c.release.ensures.rest.low, c.if-low-end.true));
      grows = grows_then (grows_put _ _ c.release.ensures.puts) did.grows;
      wrote = rw p.1 (omega (arith, did.wrote, c.in_ok-release.ensures.puts.0.counts, length-take c.min-ready.result c.args.self.now.bytes, c.min-ready.ensures, c.low.ensures, c.len.ensures.value, c.low-low.ensures, c.release.ensures.rest.low, c.if-low-end.true));
    }

pub returns-in_err-copy-clause-text : goal.returns-in_err-copy-clause-text
returns-in_err-copy-clause-text g c = λ size within file held now long midway.
    let p = err_from_is_err_and c.from_residual-in_err-copy.result c.from_residual-in_err-copy.ensures.1 in
    let is : c.min-ready.result ≡ min (c.args.end - c.args.self.now.low) (length c.args.self.now.bytes) = omega (arith, c.min-ready.ensures, c.low.ensures, c.len.ensures.value) in
    let text = gone_text file c.args.at size now c.args.self.now c.release.new.self c.min-ready.result c.args.end c.low-low.result is c.requires.low c.release.ensures.rest.low c.release.ensures.rest.bytes c.low-low.ensures c.if-low-end.true within midway in (
      rw (p.1, p.2) (writes_as (Unit {0}) c.args.out.now c.copy.new.out (Err c.in_err-copy.field-0.0) _ _ text
          (writes_then (Unit {0}) c.args.out.now c.release.new.out c.copy.new.out (Err c.in_err-copy.field-0.0) _ _
          c.in_ok-release.ensures.puts.0 (c.in_err-copy.ensures.text file held (omega (arith, long, within, c.if-low-end.true))))),
      rw p.1 tt,
    )

pub returns-in_ok-copy-clause-low : goal.returns-in_ok-copy-clause-low
returns-in_ok-copy-clause-low g c = c.jump.ensures.low

pub returns-in_ok-copy-clause-long : goal.returns-in_ok-copy-clause-long
returns-in_ok-copy-clause-long g c = omega (arith, ap length c.jump.ensures.bytes, c.min-ready.ensures, c.low.ensures, c.len.ensures.value, c.low-low.ensures, c.release.ensures.rest.low, c.if-low-end.true)

pub returns-in_ok-copy-clause-did : goal.returns-in_ok-copy-clause-did
returns-in_ok-copy-clause-did g c =
    let did = c.in_ok-copy.ensures.did in
    record {
      says = tt;
      reads = ReadsUpTo-to did.reads (omega (arith, did.reads.at_most, c.min-ready.ensures, c.low.ensures, c.len.ensures.value, c.low-low.ensures, c.release.ensures.rest.low, c.if-low-end.true));
      grows = grows_then (grows_put _ _ c.release.ensures.puts) did.grows;
      wrote = omega (arith, did.wrote, c.in_ok-release.ensures.puts.0.counts, length-take c.min-ready.result c.args.self.now.bytes, c.min-ready.ensures, c.low.ensures, c.len.ensures.value, c.low-low.ensures, c.release.ensures.rest.low, c.if-low-end.true);
    }

pub returns-in_ok-copy-clause-text : goal.returns-in_ok-copy-clause-text
returns-in_ok-copy-clause-text g c = λ size within file held now long midway.
    let is : c.min-ready.result ≡ min (c.args.end - c.args.self.now.low) (length c.args.self.now.bytes) = omega (arith, c.min-ready.ensures, c.low.ensures, c.len.ensures.value) in
    let base : List ℕ = slice file c.args.at size in
    let sized : length base ≡ size = slice-size file c.args.at size long in
    let text = gone_text file c.args.at size now c.args.self.now c.release.new.self c.min-ready.result c.args.end c.low-low.result is c.requires.low c.release.ensures.rest.low c.release.ensures.rest.bytes c.low-low.ensures c.if-low-end.true within midway in
    let none = all_gone file c.args.at size now c.args.self.now c.release.new.self c.min-ready.result c.args.end c.low-low.result is c.requires.low c.release.ensures.rest.low c.release.ensures.rest.bytes c.low-low.ensures c.if-low-end.true in (
      takes_as _ _ _ _ text (SinkTakes-then _ _ c.in_ok-release.ensures.puts.0 (c.in_ok-copy.ensures.text file held (omega (arith, long, within, c.if-low-end.true)))),
      midway_jump base now c.release.new.self c.jump.new.self none c.jump.ensures.bytes (omega (arith, c.jump.ensures.low, c.low-low.ensures, c.if-low-end.true)) (omega (arith, c.jump.ensures.low, sized, within))
          (midway_skip base now c.args.self.now c.release.new.self c.min-ready.result (omega (arith, is)) c.release.ensures.rest.low c.release.ensures.rest.bytes midway),
    )

pub returns-else-low-end-clause-did : goal.returns-else-low-end-clause-did
returns-else-low-end-clause-did g c = record {
  says = tt;
  reads = ReadsUpTo-none _ _;
  grows = grows_put _ _ c.release.ensures.puts;
  wrote = omega (arith, c.in_ok-release.ensures.puts.0.counts, length-take c.min-ready.result c.args.self.now.bytes, c.min-ready.ensures, c.low.ensures, c.len.ensures.value, c.low-low.ensures, c.release.ensures.rest.low, c.if-low-end.false, c.requires.low);
}

pub returns-else-low-end-clause-low : goal.returns-else-low-end-clause-low
returns-else-low-end-clause-low g c = omega (arith, c.min-ready.ensures, c.low.ensures, c.len.ensures.value, c.low-low.ensures, c.release.ensures.rest.low, c.if-low-end.false, c.requires.low)

pub returns-else-low-end-clause-long : goal.returns-else-low-end-clause-long
returns-else-low-end-clause-long g c =
    omega (arith, ap length c.release.ensures.rest.bytes, length-drop c.min-ready.result c.args.self.now.bytes, c.min-ready.ensures, c.len.ensures.value, c.low.ensures, c.low-low.ensures, c.release.ensures.rest.low, c.if-low-end.false, c.requires.low)

pub returns-else-low-end-clause-text : goal.returns-else-low-end-clause-text
returns-else-low-end-clause-text g c = λ size within file held now long midway.
    let few : c.min-ready.result ≤ length c.args.self.now.bytes = omega (arith, c.min-ready.ensures, c.len.ensures.value) in
    let all : c.min-ready.result ≡ c.args.end - c.args.self.now.low = omega (arith, c.min-ready.ensures, c.low.ensures, c.low-low.ensures, c.release.ensures.rest.low, c.if-low-end.false, c.requires.low) in (
      takes_as _ _ _ _ (front_part (slice file c.args.at size) now c.args.self.now c.min-ready.result few midway ∙ ap (slice now c.args.self.now.low) all) c.in_ok-release.ensures.puts.0,
      midway_skip (slice file c.args.at size) now c.args.self.now c.release.new.self c.min-ready.result few c.release.ensures.rest.low c.release.ensures.rest.bytes midway,
    )
