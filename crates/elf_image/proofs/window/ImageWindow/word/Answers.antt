use Rattle.std.proofs.Common.{◌≡◌, ◌≢◌, ◌∙◌, ◌+◌, ◌<◌, ℕ, get_or, length, ap, arith, below_more, length-set, get_or-set_other, get_or-set_same}
use Rattle.elf_image.proofs.SegmentPartSteps.{field-alike}
use Rattle.elf_image.proofs.window.ImageWindow.word.Goals as goal

pub loop-i-preserved : goal.loop-i-preserved
loop-i-preserved c =
    let known = c.loop-i.invariant in
    record {
      long = length-set {A = ℕ} c.loop-i.bytes c.loop-i.i c.byte.result ∙ known.long;
      same = λ base meets.
          let at : c.saturating_add.result ≡ c.args.offset + c.loop-i.i = omega (arith, c.saturating_add.ensures, meets.end, c.loop-i-test.true) in
          let byte : c.byte.result ≡ get_or base (c.args.offset + c.loop-i.i) 0 =
          c.byte.ensures base c.args.offset meets (omega (arith, at)) (omega (arith, at, c.loop-i-test.true)) ∙ ap (λ k. get_or base k 0) at in
          below_more _ _
          (λ k h. let ne : k ≢ c.loop-i.i = omega arith in rw get_or-set_other (known.same base meets k h))
          (let lt : c.loop-i.i < length c.loop-i.bytes = omega (arith, known.long, c.loop-i-test.true) in rw get_or-set_same byte);
    }

pub returns : goal.returns
returns c = λ base meets.
    c.u64_at.ensures
    ∙ field-alike c.loop-i.bytes base 0 c.args.offset 8 (λ k below. ap (λ n. get_or c.loop-i.bytes n 0) (let e : 0 + k ≡ k = omega arith in e) ∙ c.loop-i.invariant.same base meets k (omega (arith, below, c.loop-i-test.false)))
