use Rattle.std.proofs.Common.{◌≡◌, ◌+◌, ◌*◌, true, false, get_or, drop, sym, ap, ◌∙◌, arith}
use Rattle.std.proofs.lemmas.List.{take_rest}
use Rattle.elf_model.specs.Archive.{parse_padded_decimal, is_decimal}
use Rattle.elf_archive.proofs.FieldLaws.{digit_more, digit_nine, small_if, digits_small, digits-more, digits-stop, digits-end}
use Rattle.elf_archive.proofs.fields.parse_padded_decimal.Goals as goal

pub returns-then-not-is_decimal-clause-value : goal.returns-then-not-is_decimal-clause-value
returns-then-not-is_decimal-clause-value c =
    let other : is_decimal (get_or c.args.field.now c.loop-place.place 0) ≡ false = sym c.is_decimal.ensures ∙ c.if-not-is_decimal.true in
    let stops = rw (take_rest c.args.field.now c.loop-place.place) at c.spaced.ensures in
    stops ∙ sym (digits-stop c.loop-place.number c.args.field.now c.loop-place.place c.loop-place-test.true other) ∙ c.loop-place.invariant.same

pub returns-then-not-is_decimal-clause-small : goal.returns-then-not-is_decimal-clause-small
returns-then-not-is_decimal-clause-small c =
    let small = digits_small c.loop-place.number c.loop-place.place (omega arith) c.loop-place.invariant.small in
    rw c.spaced.ensures (small_if _ c.loop-place.number (omega (arith, small)))

pub overflow_mul-number : goal.overflow_mul-number
overflow_mul-number c =
    let small = digits_small c.loop-place.number c.loop-place.place (omega arith) c.loop-place.invariant.small in omega arith

pub overflow_add-number : goal.overflow_add-number
overflow_add-number c =
    let small = digits_small c.loop-place.number c.loop-place.place (omega arith) c.loop-place.invariant.small in omega arith

pub loop-place-preserved : goal.loop-place-preserved
loop-place-preserved c =
    let digit : is_decimal (get_or c.args.field.now c.loop-place.place 0) ≡ true = sym c.is_decimal.ensures ∙ c.if-not-is_decimal.false in
    record {
      same = ap (λ d. parse_padded_decimal (10 * c.loop-place.number + d) (drop (c.loop-place.place + 1) c.args.field.now)) c.from.ensures
          ∙ sym (digits-more c.loop-place.number c.args.field.now c.loop-place.place c.loop-place-test.true digit) ∙ c.loop-place.invariant.same;
      small = digit_more c.loop-place.number _ c.loop-place.place c.loop-place.invariant.small (omega (arith, c.from.ensures, digit_nine (get_or c.args.field.now c.loop-place.place 0) digit));
    }

pub returns-clause-value : goal.returns-clause-value
returns-clause-value c = sym (digits-end c.loop-place.number c.args.field.now c.loop-place.place (omega arith)) ∙ c.loop-place.invariant.same

pub returns-clause-small : goal.returns-clause-small
returns-clause-small c =
    let small = digits_small c.loop-place.number c.loop-place.place (omega arith) c.loop-place.invariant.small in omega arith
