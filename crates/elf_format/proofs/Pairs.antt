-- The digits of each byte, as the table stores them.
use Rattle.std.proofs.Common.{◌≡◌, ℕ, zero, suc, ◌+◌, ◌-◌, ◌*◌, ◌/◌, ◌%◌, ◌<◌, Bool, true, ◌&&◌, T, eqb, [], ◌∷◌, ◌++◌, get_or, refl, ◌^◌, inl, inr, arith, eq-zero-or-pos, eqb→eq}
use lib.Ieee.Fits.{and_l, and_r}
use Rattle.elf_model.specs.Text.{digit, hex}
use Rattle.elf_format.specs.declared.hexadecimal.TheConstants.{PAIRS}

abbrev are_pairs : ℕ → Bool
are_pairs zero = true
are_pairs (suc p) = (eqb (get_or PAIRS (p * 2) 0) (digit (p / 16)) && eqb (get_or PAIRS (p * 2 + 1) 0) (digit (p % 16))) && are_pairs p

below : (n p : ℕ) → T (are_pairs n) → p < n → (get_or PAIRS (p * 2) 0 ≡ digit (p / 16)) × (get_or PAIRS (p * 2 + 1) 0 ≡ digit (p % 16))
below zero p t h = absurd (omega arith)
below (suc n) p t h =
    elim (eq-zero-or-pos (n - p)) [
      | inl z ↦ let e : p ≡ n = omega arith in let a = and_l _ (are_pairs n) t in rw e (eqb→eq _ _ (and_l _ _ a), eqb→eq _ _ (and_r _ _ a))
      | inr g ↦ below n p (and_r _ (are_pairs n) t) (omega arith)
    ]

all_pairs : T (are_pairs 256)
unfolding digit
all_pairs = tt

pub pairs_at : (p : ℕ) → p < 256 → (get_or PAIRS (p * 2) 0 ≡ digit (p / 16)) × (get_or PAIRS (p * 2 + 1) 0 ≡ digit (p % 16))
pairs_at p h = below 256 p all_pairs h

-- the eight digits of a number, by its bytes
pub eight : (n : ℕ) → n < 2 ^ 32
    → digit (n / 16777216 / 16) ∷ digit (n / 16777216 % 16) ∷ digit (n / 65536 % 256 / 16) ∷ digit (n / 65536 % 256 % 16)
    ∷ digit (n / 256 % 256 / 16) ∷ digit (n / 256 % 256 % 16) ∷ digit (n % 256 / 16) ∷ digit (n % 256 % 16) ∷ []
    ≡ hex 8 n
unfolding hex
eight n small =
    let a : n / 16777216 / 16 ≡ n / 268435456 % 16 = omega (arith, small) in
    let b : n / 65536 % 256 / 16 ≡ n / 1048576 % 16 = omega arith in
    let c : n / 65536 % 256 % 16 ≡ n / 65536 % 16 = omega arith in
    let d : n / 256 % 256 / 16 ≡ n / 4096 % 16 = omega arith in
    let e : n / 256 % 256 % 16 ≡ n / 256 % 16 = omega arith in
    let f : n % 256 / 16 ≡ n / 16 % 16 = omega arith in
    let h : n % 256 % 16 ≡ n / 1 % 16 = omega arith in
    rw (a, b, c, d, e, f, h) refl

-- eight digits are those of the lower half
pub lower_eight : (n : ℕ) → hex 8 (n % 4294967296) ≡ hex 8 n
unfolding hex
lower_eight n =
    let a : n % 4294967296 / 268435456 % 16 ≡ n / 268435456 % 16 = omega arith in
    let b : n % 4294967296 / 16777216 % 16 ≡ n / 16777216 % 16 = omega arith in
    let c : n % 4294967296 / 1048576 % 16 ≡ n / 1048576 % 16 = omega arith in
    let d : n % 4294967296 / 65536 % 16 ≡ n / 65536 % 16 = omega arith in
    let e : n % 4294967296 / 4096 % 16 ≡ n / 4096 % 16 = omega arith in
    let f : n % 4294967296 / 256 % 16 ≡ n / 256 % 16 = omega arith in
    let g : n % 4294967296 / 16 % 16 ≡ n / 16 % 16 = omega arith in
    let h : n % 4294967296 / 1 % 16 ≡ n / 1 % 16 = omega arith in
    rw (a, b, c, d, e, f, g, h) refl

-- sixteen digits are those of the two halves
pub sixteen : (n : ℕ) → hex 8 (n / 4294967296) ++ hex 8 (n % 4294967296) ≡ hex 16 n
unfolding hex
sixteen n =
    let a : n / 4294967296 / 268435456 % 16 ≡ n / 1152921504606846976 % 16 = omega arith in
    let b : n / 4294967296 / 16777216 % 16 ≡ n / 72057594037927936 % 16 = omega arith in
    let c : n / 4294967296 / 1048576 % 16 ≡ n / 4503599627370496 % 16 = omega arith in
    let d : n / 4294967296 / 65536 % 16 ≡ n / 281474976710656 % 16 = omega arith in
    let e : n / 4294967296 / 4096 % 16 ≡ n / 17592186044416 % 16 = omega arith in
    let f : n / 4294967296 / 256 % 16 ≡ n / 1099511627776 % 16 = omega arith in
    let g : n / 4294967296 / 16 % 16 ≡ n / 68719476736 % 16 = omega arith in
    let h : n / 4294967296 / 1 % 16 ≡ n / 4294967296 % 16 = omega arith in
    rw (lower_eight n, a, b, c, d, e, f, g, h) refl
