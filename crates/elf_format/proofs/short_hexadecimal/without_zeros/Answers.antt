-- What is left begins with a digit that stays.
use Rattle.std.proofs.Common.{◌≡◌, ◌+◌, ◌<◌, suc, length, ◌∙◌, sym, arith}
use Rattle.std.proofs.lemmas.List.{take_rest}
use Rattle.elf_format.proofs.ShortDigits.{last_stays, other_stays, zero_dropped}
use Rattle.elf_format.proofs.short_hexadecimal.without_zeros.Goals as goal
use Rattle.elf_format.proofs.short_hexadecimal.without_zeros.Goals.{then-loop-from-test+else-digits-from-eq48, else-loop-from-test}

pub loop-from-preserved : goal.loop-from-preserved
loop-from-preserved c =
    let next : c.loop-from.from + 1 ≡ suc c.loop-from.from = omega arith in
    let less : suc c.loop-from.from < length c.args.digits.now = omega (arith, c.loop-from-test.true) in
    record {
      within = omega (arith, c.loop-from-test.true);
      same = rw next (sym (zero_dropped c.args.digits.now c.loop-from.from less c.if-digits-from-eq48.true) ∙ c.loop-from.invariant.same);
    }

pub returns-clause-digits : goal.returns-clause-digits
returns-clause-digits c =
    let digits = c.args.digits.now in
    let from = c.loop-from.from in
    take_rest digits from
    ∙ elim c.loop-from-test.branch [
      | then-loop-from-test+else-digits-from-eq48 w ↦
          sym (other_stays digits from (omega (arith, w.loop-from-test.true)) w.if-digits-from-eq48.false) ∙ c.loop-from.invariant.same
      | else-loop-from-test w ↦ sym (last_stays digits from (omega (arith, w.loop-from-test.false))) ∙ c.loop-from.invariant.same
    ]
