-- Digits without the zeros before the first other digit.
use Rattle.std.proofs.Common.{◌≡◌, ◌≢◌, ℕ, zero, suc, ◌<◌, ◌≤◌, ◌==◌, false, List, [], ◌∷◌, length, drop, get_or, refl, arith}
use Rattle.std.proofs.lemmas.Bool.Decides.{nat_tests}
use Rattle.elf_model.specs.Text.{without_zeros}

-- a zero that is not the last digit may be left out
pub zero_dropped : (digits : List ℕ) (n : ℕ) → suc n < length digits → get_or digits n 0 ≡ 48 → without_zeros (drop n digits) ≡ without_zeros (drop (suc n) digits)
unfolding without_zeros
zero_dropped [] n less is = absurd (omega arith)
zero_dropped (first ∷ []) zero less is = absurd (omega arith)
zero_dropped (first ∷ next ∷ rest) zero less is = rw is refl
zero_dropped (first ∷ digits) (suc n) less is = zero_dropped digits n (omega arith) is

-- the last digit stays
pub last_stays : (digits : List ℕ) (n : ℕ) → length digits ≤ suc n → without_zeros (drop n digits) ≡ drop n digits
unfolding without_zeros
last_stays [] zero few = refl
last_stays [] (suc n) few = refl
last_stays (first ∷ []) zero few = refl
last_stays (first ∷ next ∷ rest) zero few = absurd (omega arith)
last_stays (first ∷ digits) (suc n) few = last_stays digits n (omega arith)

-- so does every digit from one that is no zero
pub other_stays : (digits : List ℕ) (n : ℕ) → n < length digits → get_or digits n 0 ≢ 48 → without_zeros (drop n digits) ≡ drop n digits
unfolding without_zeros
other_stays [] n less other = absurd (omega arith)
other_stays (first ∷ []) zero less other = refl
other_stays (first ∷ next ∷ rest) zero less other =
    let no : (first == 48) ≡ false = grind (arith, nat_tests) in rw no refl
other_stays (first ∷ digits) (suc n) less other = other_stays digits n (omega arith) other
