-- Formulas modulo 2^64.
use Rattle.std.proofs.Common.{◌≡◌, ℕ, zero, suc, ◌+◌, ◌-◌, ◌*◌, ◌/◌, ◌%◌, ◌^◌, ◌<◌, ◌≤◌, inl, inr, true, false, ltb, nat_lt, ℤ, pos, negsuc, ◌+ℤ◌, ◌-ℤ◌, sym, ap, ◌∙◌, arith, mod-eq_of_lt}
use Rattle.std.proofs.Math.Nat.{add-mod-mod, mod-add-mod}
use Rattle.std.proofs.lemmas.Bool.{cond-true, cond-false, cases_lt, lt-ltb, le-ltb}
use Rattle.std.proofs.lemmas.Nat.{mod-mul-add}
use Rattle.elf_model.specs.Prelude.{AddendIsItsBits, DifferenceWraps, SumWraps, modulo_2_64}

sum_below : (s n : ℕ) → s < suc n → 2 ^ 64 - 1 - (n - s) % 2 ^ 64 ≡ (s + (2 ^ 64 - 1 - n % 2 ^ 64)) % 2 ^ 64
sum_below s n low =
    let e : s + (2 ^ 64 - 1 - n % 2 ^ 64) ≡ (n / 2 ^ 64 - (n - s) / 2 ^ 64) * 2 ^ 64 + (2 ^ 64 - 1 - (n - s) % 2 ^ 64) = omega arith in
    sym (ap (λ x. x % 2 ^ 64) e ∙ mod-mul-add _ (2 ^ 64) _ (omega arith))

sum_above : (s n : ℕ) → suc n ≤ s → (s - suc n) % 2 ^ 64 ≡ (s + (2 ^ 64 - 1 - n % 2 ^ 64)) % 2 ^ 64
sum_above s n high =
    let e : s + (2 ^ 64 - 1 - n % 2 ^ 64) ≡ (n / 2 ^ 64 + (s - suc n) / 2 ^ 64 + 1) * 2 ^ 64 + (s - suc n) % 2 ^ 64 = omega arith in
    sym (ap (λ x. x % 2 ^ 64) e ∙ mod-mul-add _ (2 ^ 64) _ (omega arith))

-- a natural number and a negative one, by which is the larger
plus_larger : (s n : ℕ) → s < suc n → pos s +ℤ negsuc n ≡ negsuc (n - s)
plus_larger s n low =
    let e : suc n - suc s ≡ n - s = omega arith in
    cond-true (ltb s (suc n)) (negsuc (suc n - suc s)) (pos (s - suc n)) (lt-ltb s (suc n) low) ∙ ap negsuc e

plus_smaller : (s n : ℕ) → suc n ≤ s → pos s +ℤ negsuc n ≡ pos (s - suc n)
plus_smaller s n high =
    cond-false (ltb s (suc n)) (negsuc (suc n - suc s)) (pos (s - suc n)) (le-ltb s (suc n) high)

pub sum_wraps : SumWraps
unfolding modulo_2_64
sum_wraps s (pos n) = sym (add-mod-mod s n (2 ^ 64))
sum_wraps s (negsuc n) =
    elim (cases_lt s (suc n)) [
      | inl low ↦ ap modulo_2_64 (plus_larger s n low) ∙ sum_below s n low
      | inr high ↦ ap modulo_2_64 (plus_smaller s n high) ∙ sum_above s n high
    ]

-- nothing is subtracted
less_zero : (z : ℤ) → z -ℤ pos 0 ≡ z
less_zero (pos n) = let e : n + 0 ≡ n = omega arith in ap pos e
less_zero (negsuc n) = plus_larger 0 n (omega arith) ∙ (let e : n - 0 ≡ n = omega arith in ap negsuc e)

whole_less : (x : ℕ) → x < 2 ^ 64 → x ≡ (x + (2 ^ 64 - 0)) % 2 ^ 64
whole_less x low =
    let e : x + (2 ^ 64 - 0) ≡ 1 * 2 ^ 64 + x = omega arith in
    sym (ap (λ y. y % 2 ^ 64) e ∙ mod-mul-add 1 (2 ^ 64) x low)

modulo_below : (z : ℤ) → modulo_2_64 z < 2 ^ 64
unfolding modulo_2_64
modulo_below (pos n) = omega arith
modulo_below (negsuc n) = omega arith

-- two negative numbers
both_negative :
    (n p : ℕ) → suc p < 2 ^ 64
    → 2 ^ 64 - 1 - suc (n + p) % 2 ^ 64 ≡ (2 ^ 64 - 1 - n % 2 ^ 64 + (2 ^ 64 - suc p)) % 2 ^ 64
both_negative n p low =
    let e : 2 ^ 64 - 1 - n % 2 ^ 64 + (2 ^ 64 - suc p)
    ≡ (1 + n / 2 ^ 64 - suc (n + p) / 2 ^ 64) * 2 ^ 64 + (2 ^ 64 - 1 - suc (n + p) % 2 ^ 64) = omega arith in
    sym (ap (λ x. x % 2 ^ 64) e ∙ mod-mul-add _ (2 ^ 64) _ (omega arith))

positive_less :
    (n p : ℕ) → suc p < 2 ^ 64
    → (n + (2 ^ 64 - 1 - p % 2 ^ 64)) % 2 ^ 64 ≡ (n % 2 ^ 64 + (2 ^ 64 - suc p)) % 2 ^ 64
positive_less n p low =
    let small : p % 2 ^ 64 ≡ p = mod-eq_of_lt (omega arith) in
    let e : n + (2 ^ 64 - 1 - p % 2 ^ 64) ≡ n + (2 ^ 64 - suc p) = omega arith in
    ap (λ x. x % 2 ^ 64) e ∙ sym (mod-add-mod n (2 ^ 64) (2 ^ 64 - suc p))

pub difference_wraps : DifferenceWraps
unfolding modulo_2_64
difference_wraps a zero low = ap modulo_2_64 (less_zero a) ∙ whole_less (modulo_2_64 a) (modulo_below a)
difference_wraps (pos n) (suc p) low = sum_wraps n (negsuc p) ∙ positive_less n p low
difference_wraps (negsuc n) (suc p) low = both_negative n p low

pub addend_is_its_bits : AddendIsItsBits
unfolding modulo_2_64
addend_is_its_bits bits low =
    elim (cases_lt bits (2 ^ 63)) [
      | inl small ↦
          let t : nat_lt bits (2 ^ 63) ≡ true = lt-ltb bits (2 ^ 63) small in
          rw t (mod-eq_of_lt (omega arith))
      | inr large ↦
          let t : nat_lt bits (2 ^ 63) ≡ false = le-ltb bits (2 ^ 63) large in
          let small : (2 ^ 64 - 1 - bits) % 2 ^ 64 ≡ 2 ^ 64 - 1 - bits = mod-eq_of_lt (omega arith) in
          rw t (omega arith)
    ]
