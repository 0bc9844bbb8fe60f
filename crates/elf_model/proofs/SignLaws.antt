-- A value fits in two's complement exactly if it is its low bits with their sign.
use Rattle.std.proofs.Common.{◌≡◌, ℕ, zero, suc, ◌+◌, ◌-◌, ◌*◌, ◌%◌, ◌^◌, ◌<◌, ◌≤◌, inl, inr, true, false, not, nat_lt, refl, sym, ap, ◌∙◌, arith, mod-eq_of_lt, pow_pos, pow-add, pow-suc, suc-mul}
use Rattle.std.proofs.lemmas.Bool.{cases_lt, lt-ltb, le-ltb, ltb-true, ltb-false, or_cases, or_left, or_right, not-true, not_from_false}
use Rattle.std.proofs.lemmas.Nat.{mod-mul-add}
use Rattle.elf_model.specs.Prelude.{SignedFits, is_signed, sign_extended}

-- For numbers below 2^64, where `whole`, twice `half`, divides all numbers into `rest` parts.
module _ (half whole rest value : ℕ) (twice : whole ≡ half + half) (all : rest * whole + whole ≡ 2 ^ 64) where
  low_part : value < half → value % whole ≡ value
  low_part low = mod-eq_of_lt (omega arith)

  high_part : 2 ^ 64 - half ≤ value → value < 2 ^ 64 → 0 < half → value % whole ≡ value - (2 ^ 64 - whole)
  high_part high bound some =
      let e : value ≡ rest * whole + (value - (2 ^ 64 - whole)) = omega arith in
      ap (λ x. x % whole) e ∙ mod-mul-add rest whole (value - (2 ^ 64 - whole)) (omega arith)

half_of : (bits : ℕ) → 0 < bits → 2 ^ bits ≡ 2 ^ (bits - 1) + 2 ^ (bits - 1)
half_of zero some = absurd (omega arith)
half_of (suc bits) some =
    let e : suc bits - 1 ≡ bits = omega arith in
    let p = pow-suc 2 bits in
    rw e (omega arith)

rest_of : (bits : ℕ) → bits ≤ 64 → (2 ^ (64 - bits) - 1) * 2 ^ bits + 2 ^ bits ≡ 2 ^ 64
rest_of bits low =
    let some = pow_pos (64 - bits) in
    let one : suc (2 ^ (64 - bits) - 1) ≡ 2 ^ (64 - bits) = omega arith in
    let sum : 64 - bits + bits ≡ 64 = omega arith in
    sym (suc-mul (2 ^ (64 - bits) - 1) (2 ^ bits)) ∙ ap (λ x. x * 2 ^ bits) one
    ∙ sym (pow-add 2 (64 - bits) bits) ∙ ap (λ x. 2 ^ x) sum

-- a number below the half keeps its sign, one from the half on is negative
extended_low : (bits number : ℕ) → number < 2 ^ (bits - 1) → sign_extended bits number ≡ number
extended_low bits number low =
    let t : nat_lt number (2 ^ (bits - 1)) ≡ true = lt-ltb number (2 ^ (bits - 1)) low in rw t refl

extended_high : (bits number : ℕ) → 2 ^ (bits - 1) ≤ number → sign_extended bits number ≡ number + (2 ^ 64 - 2 ^ bits)
extended_high bits number high =
    let t : nat_lt number (2 ^ (bits - 1)) ≡ false = le-ltb number (2 ^ (bits - 1)) high in rw t refl

module _ (bits value : ℕ) (some : 0 < bits) (most : bits ≤ 64) (bound : value < 2 ^ 64) where
  fits_low : value < 2 ^ (bits - 1) → sign_extended bits (value % 2 ^ bits) ≡ value
  fits_low low =
      let same = low_part (2 ^ (bits - 1)) (2 ^ bits) (2 ^ (64 - bits) - 1) value (half_of bits some) (rest_of bits most) low in
      ap (sign_extended bits) same ∙ extended_low bits value low

  fits_high : 2 ^ 64 - 2 ^ (bits - 1) ≤ value → sign_extended bits (value % 2 ^ bits) ≡ value
  fits_high high =
      let part = high_part (2 ^ (bits - 1)) (2 ^ bits) (2 ^ (64 - bits) - 1) value (half_of bits some) (rest_of bits most)
      high bound (pow_pos (bits - 1)) in
      let twice = half_of bits some in
      let rest = rest_of bits most in
      ap (sign_extended bits) part ∙ extended_high bits (value - (2 ^ 64 - 2 ^ bits)) (omega arith) ∙ omega arith

  is_extended : is_signed bits value ≡ true → sign_extended bits (value % 2 ^ bits) ≡ value
  is_extended e =
      elim (or_cases (nat_lt value (2 ^ (bits - 1))) (not (nat_lt value (2 ^ 64 - 2 ^ (bits - 1)))) e) [
        | inl low ↦ fits_low (ltb-true value (2 ^ (bits - 1)) low)
        | inr high ↦ fits_high (ltb-false value (2 ^ 64 - 2 ^ (bits - 1)) (not-true (nat_lt value (2 ^ 64 - 2 ^ (bits - 1))) high))
      ]

  from_extended : sign_extended bits (value % 2 ^ bits) ≡ value → is_signed bits value ≡ true
  from_extended e =
      elim (cases_lt (value % 2 ^ bits) (2 ^ (bits - 1))) [
        | inl low ↦
            let same : value % 2 ^ bits ≡ value = sym (extended_low bits (value % 2 ^ bits) low) ∙ e in
            or_left (nat_lt value (2 ^ (bits - 1))) (not (nat_lt value (2 ^ 64 - 2 ^ (bits - 1))))
            (lt-ltb value (2 ^ (bits - 1)) (omega arith))
        | inr high ↦
            let more : value % 2 ^ bits + (2 ^ 64 - 2 ^ bits) ≡ value = sym (extended_high bits (value % 2 ^ bits) high) ∙ e in
            let twice = half_of bits some in
            let rest = rest_of bits most in
            or_right (nat_lt value (2 ^ (bits - 1))) (not (nat_lt value (2 ^ 64 - 2 ^ (bits - 1))))
            (not_from_false (nat_lt value (2 ^ 64 - 2 ^ (bits - 1))) (le-ltb value (2 ^ 64 - 2 ^ (bits - 1)) (omega arith)))
      ]

pub signed_fits : SignedFits
signed_fits bits value some most bound = (is_extended bits value some most bound, from_extended bits value some most bound)
