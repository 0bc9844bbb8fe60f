-- A version index is inserted into a set of bits.
use Rattle.std.proofs.Common.{◌≡◌, ◌≢◌, ℕ, suc, ◌*◌, ◌/◌, ◌%◌, ◌^◌, ◌<◌, ◌≤◌, ◌==◌, ◌||◌, false, List, length, get_or, inl, inr, refl, ap, sym, arith}
use Rattle.std.proofs.lemmas.Bool.{cases_eq, cases_lt}
use Rattle.std.proofs.lemmas.Bool.Decides.{nat_tests}
use Rattle.std.proofs.lemmas.List.{get_or_past, get_or-set_same, get_or-set_other}
use Rattle.std.proofs.lemmas.Nat.Bits.{bit_at-lt, bit_at-pow_other, bit_at-pow_same, bit_at-zero, bit_at_or}
use Rattle.std.proofs.Math.ListN.{set}
use Rattle.std.proofs.Math.Pow.{pow-lt}
use Rattle.std.specs.Int.{bit_at}
use Rattle.std.specs.Int.RustNames.{bit_or}
use Rattle.elf_model.specs.Versions.{VERSION_NUMBERS}
use Rattle.elf_loader.specs.NumberSets.{has_number}

-- a word with one more bit
bit-more : (word j k : ℕ) → (bit_at (bit_or word (2 ^ j)) k == 1) ≡ (j == k || bit_at word k == 1)
bit-more word j k =
    let joined = bit_at_or word (2 ^ j) k in
    let small = bit_at-lt word k in
    elim (cases_eq j k) [
      | inl same ↦ let one = bit_at-pow_same k in rw (joined, same, one) (grind (arith, nat_tests))
      | inr other ↦ let none = bit_at-pow_other j k (λ e. other (sym e)) in rw (joined, none) (grind (arith, nat_tests))
    ]

-- indices of one word are the same if their bits are
alike-places : (number other : ℕ) → number / 64 ≡ other / 64 → (number % 64 == other % 64) ≡ (number == other)
alike-places number other same =
    elim (cases_eq (number % 64) (other % 64)) [
      | inl bit ↦ let e : number ≡ other = omega (arith, same, bit) in grind (arith, nat_tests)
      | inr bit ↦ let e : number ≢ other = λ e. bit (ap (λ (n : ℕ). n % 64) e) in grind (arith, nat_tests)
    ]

-- numbers of two words are two
differ-words : (number other : ℕ) → other / 64 ≢ number / 64 → (number == other) ≡ false
differ-words number other apart = let e : number ≢ other = λ e. apart (ap (λ (n : ℕ). n / 64) (sym e)) in grind (arith, nat_tests)

-- its word has one more bit, and the others are unchanged
pub has-more :
    (words : List ℕ) (number other : ℕ) → number / 64 < length words
    → has_number (set words (number / 64) (bit_or (get_or words (number / 64) 0) (2 ^ (number % 64)))) other
    ≡ (number == other || has_number words other)
has-more words number other inside =
    elim (cases_eq (other / 64) (number / 64)) [
      | inl same ↦
          let here = get_or-set_same words (number / 64) (bit_or (get_or words (number / 64) 0) (2 ^ (number % 64))) 0 inside in
          let more = bit-more (get_or words (number / 64) 0) (number % 64) (other % 64) in
          let alike : (number % 64 == other % 64) ≡ (number == other) = alike-places number other (sym same) in
          rw (same, here, more, alike) refl
      | inr apart ↦
          let kept = get_or-set_other words (number / 64) (other / 64) (bit_or (get_or words (number / 64) 0) (2 ^ (number % 64))) 0 apart in
          let differ : (number == other) ≡ false = differ-words number other apart in
          rw (kept, differ) refl
    ]

-- the bit is in a word
pub bit-fits : (number : ℕ) → 1 * 2 ^ (number % 64) % 2 ^ 64 ≡ 2 ^ (number % 64)
bit-fits number = let small = pow-lt {i = number % 64} {j = 64} (omega arith) in omega (arith, small)

-- an index past all words is not in it
pub past-none : (words : List ℕ) (number : ℕ) → length words ≡ 16 → VERSION_NUMBERS ≤ number → has_number words number ≡ false
past-none words number many past =
    let none = get_or_past words (number / 64) 0 (omega (arith, many, past)) in
    let zero = bit_at-zero (number % 64) in
    rw (none, zero) refl

-- none is, if none below that is
pub none-all : (words : List ℕ) → length words ≡ 16 → ((number : ℕ) → number < VERSION_NUMBERS → has_number words number ≡ false) → (number : ℕ) → has_number words number ≡ false
none-all words many few number =
    elim (cases_lt number VERSION_NUMBERS) [
      | inl low ↦ few number low
      | inr past ↦ past-none words number many past
    ]

-- one more is not
pub none-more : (words : List ℕ) (end : ℕ) → ((number : ℕ) → number < end → has_number words number ≡ false) → has_number words end ≡ false
    → (number : ℕ) → number < suc end → has_number words number ≡ false
none-more words end few here number most =
    elim (cases_lt number end) [
      | inl low ↦ few number low
      | inr past ↦ let same : number ≡ end = omega (arith, most, past) in rw same here
    ]
