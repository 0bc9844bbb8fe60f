-- Hexadecimal digits as shifts compute them.
use Rattle.std.proofs.Common.{◌≡◌, ℕ, zero, suc, ◌+◌, ◌-◌, ◌*◌, ◌/◌, ◌%◌, ◌^◌, ◌<◌, ◌≤◌, List, [], ◌∷◌, ◌++◌, length, refl, ap, arith, append_assoc, append-nil}
use Rattle.std.proofs.Math.Nat.{pow-suc}
use Rattle.std.proofs.lemmas.Nat.{pow-add}
use Rattle.elf_model.specs.Text.{digit, hex}

-- sixteen to the k is two to the 4 k
pub sixteens : (k : ℕ) → 16 ^ k ≡ 2 ^ (4 * k)
sixteens zero = refl
sixteens (suc k) =
    let split : 4 * suc k ≡ 4 * k + 4 = omega arith in rw (pow-suc 16 k, split, pow-add 2 (4 * k) 4, sixteens k) refl

-- the first of the last digits, and the others
pub hex-before : (k n : ℕ) → 0 < k → hex k n ≡ digit (n / 2 ^ (4 * (k - 1)) % 16) ∷ hex (k - 1) n
unfolding hex
hex-before zero n h = absurd (omega arith)
hex-before (suc k) n h =
    let back : suc k - 1 ≡ k = omega arith in rw back (ap (λ m. digit (n / m % 16) ∷ hex k n) (sixteens k))

pub length_hex : (k n : ℕ) → length (hex k n) ≡ k
unfolding hex
length_hex zero n = refl
length_hex (suc k) n = rw (length_hex k n) refl

-- a digit that is appended is the first of those that were left
pub digit_put : (front items : List ℕ) (k n d : ℕ) → 0 < k → d ≡ digit (n / 2 ^ (4 * (k - 1)) % 16) → items ≡ front ++ d ∷ []
    → items ++ hex (k - 1) n ≡ front ++ hex k n
digit_put front items k n d some is put =
    rw (put, append_assoc front (d ∷ []) (hex (k - 1) n), hex-before k n some, is) refl

-- no digits are left
pub none_left : (items : List ℕ) (k n : ℕ) → k ≤ 0 → items ++ hex k n ≡ items
unfolding hex
none_left items zero n h = append-nil items
none_left items (suc k) n h = absurd (omega arith)
