-- What holds of the fields of a member's header.
use Rattle.std.proofs.Common.{◌≡◌, ◌≢◌, ℕ, ◌+◌, ◌-◌, ◌*◌, ◌^◌, ◌<◌, ◌≤◌, ◌==◌, ◌&&◌, Bool, true, false, List, [], ◌∷◌, ◌++◌, length, get_or, drop, Option, Some, None, if◌then◌else◌, suc, take, refl, sym, ap, ◌∙◌, add-one, zero-le, arith}
use Rattle.std.specs.Prelude.{IfSome}
use Rattle.std.specs.List.{position, position_or_len}
use Rattle.std.proofs.lemmas.List.Sums.{position_or_len_is}
use Rattle.std.proofs.Math.ListN.{drop_of_length-le}
use Rattle.std.proofs.Math.Nat.{pow-le-pow_right, pow-succ'}
use Rattle.std.proofs.Math.Seq.{drop-cons, take-suc}
use Rattle.std.proofs.lemmas.Bool.Decides.{nat_tests}
use Rattle.memchr.specs.Find.{IsFirstByte, is_byte}
use Rattle.elf_model.specs.Archive.{are_all, parse_padded_decimal, is_decimal, trimmed}

and-false : (t : Bool) → (t && false) ≡ false
and-false true = refl
and-false false = refl

-- one more byte at the end changes nothing of bytes that are all this one
all-more : (byte : ℕ) (xs : List ℕ) → are_all byte (xs ++ byte ∷ []) ≡ are_all byte xs
all-more byte [] = let same : (byte == byte) ≡ true = grind (arith, nat_tests) in ap (λ (t : Bool). t && true) same
all-more byte (x ∷ xs) = ap (λ (b : Bool). (x == byte) && b) (all-more byte xs)

-- and another one at the end makes them other bytes
all-end : (byte : ℕ) (xs : List ℕ) (b : ℕ) → (b == byte) ≡ false → are_all byte (xs ++ b ∷ []) ≡ false
all-end byte [] b other = ap (λ (t : Bool). t && true) other
all-end byte (x ∷ xs) b other = ap (λ (t : Bool). (x == byte) && t) (all-end byte xs b other) ∙ and-false (x == byte)

-- such a byte at the end is dropped
pub trimmed-more : (byte : ℕ) (xs : List ℕ) → trimmed byte (xs ++ byte ∷ []) ≡ trimmed byte xs
unfolding trimmed
trimmed-more byte [] = rw (all-more byte []) refl
trimmed-more byte (x ∷ xs) = rw (all-more byte (x ∷ xs), trimmed-more byte xs) refl

-- bytes that end in another byte are unchanged
pub trimmed-ends : (byte : ℕ) (xs : List ℕ) (b : ℕ) → (b == byte) ≡ false → trimmed byte (xs ++ b ∷ []) ≡ xs ++ b ∷ []
unfolding trimmed
trimmed-ends byte [] b other = rw other refl
trimmed-ends byte (x ∷ xs) b other = rw (all-end byte (x ∷ xs) b other, trimmed-ends byte xs b other) refl

-- one more digit keeps a number of a given count of digits small
pub digit_more : (number digit place : ℕ) → number < 10 ^ place → digit ≤ 9 → 10 * number + digit < 10 ^ (place + 1)
digit_more number digit place small nine =
    let e : 10 ^ (place + 1) ≡ 10 * 10 ^ place = ap (λ n. 10 ^ n) (add-one place) ∙ pow-succ' 10 place in
    omega (arith, e, small, nine)

pub digits_small : (number place : ℕ) → place ≤ 15 → number < 10 ^ place → number < 1000000000000000
digits_small number place few small = let most : 10 ^ place ≤ 10 ^ 15 = pow-le-pow_right (omega arith) few in omega (arith, most)

-- a digit, and what follows it
pub digits-more : (number : ℕ) (field : List ℕ) (place : ℕ) → place < length field → is_decimal (get_or field place 0) ≡ true
    → parse_padded_decimal number (drop place field) ≡ parse_padded_decimal (10 * number + (get_or field place 0 - 48)) (drop (place + 1) field)
unfolding parse_padded_decimal
digits-more number field place within is =
    rw (drop-cons field place 0 within, is, add-one place) refl

-- another byte, and what follows it
pub digits-stop : (number : ℕ) (field : List ℕ) (place : ℕ) → place < length field → is_decimal (get_or field place 0) ≡ false
    → parse_padded_decimal number (drop place field) ≡ (if are_all 32 (drop place field) then Some number else None)
unfolding parse_padded_decimal
digits-stop number field place within is =
    rw (drop-cons field place 0 within, is) refl

-- no byte more
pub digits-end : (number : ℕ) (field : List ℕ) (place : ℕ) → length field ≤ place → parse_padded_decimal number (drop place field) ≡ Some number
unfolding parse_padded_decimal
digits-end number field place past = rw (drop_of_length-le field past) refl

not_true : (t : Bool) → (t ≡ true → ⊥) → t ≡ false
not_true true other = absurd (other refl)
not_true false other = refl

-- the first index of a byte, index by index
found : (byte : ℕ) (bytes : List ℕ) (place : ℕ) → place < length bytes → ((i : ℕ) → i < place → (get_or bytes i 0 == byte) ≡ false) → (get_or bytes place 0 == byte) ≡ true
    → position (λ b. b == byte) bytes ≡ Some place
found byte bytes place within before here =
    let e : position_or_len (λ b. b == byte) bytes ≡ place = position_or_len_is (λ b. b == byte) bytes place 0 (omega arith) before (λ l. here) in
    grind (arith, nat_tests)

nowhere : (byte : ℕ) (bytes : List ℕ) → ((i : ℕ) → i < length bytes → (get_or bytes i 0 == byte) ≡ false) → position (λ b. b == byte) bytes ≡ None
nowhere byte bytes before =
    let e : position_or_len (λ b. b == byte) bytes ≡ length bytes = position_or_len_is (λ b. b == byte) bytes (length bytes) 0 (omega arith) before (λ l. absurd (omega arith)) in
    grind (arith, nat_tests)

-- the first index of a byte
pub first_at : (byte : ℕ) (bytes : List ℕ) (place : Option ℕ) → IsFirstByte (is_byte byte) bytes place → position (λ b. b == byte) bytes ≡ place
first_at byte bytes (Some place) h = found byte bytes place h.0.high (λ i l. not_true (get_or bytes i 0 == byte) (h.0.before i zero-le l)) h.1
first_at byte bytes None h = nowhere byte bytes (λ i l. not_true (get_or bytes i 0 == byte) (h i zero-le l))

-- the first bytes end in one that is at an index
front_more : (bytes : List ℕ) (end : ℕ) → 0 < end → end ≤ length bytes → take end bytes ≡ take (end - 1) bytes ++ get_or bytes (end - 1) 0 ∷ []
front_more bytes end some within =
    let e : end ≡ suc (end - 1) = omega arith in
    ap (λ n. take n bytes) e ∙ take-suc bytes (end - 1) 0 (omega arith)

pub trimmed-at : (byte : ℕ) (bytes : List ℕ) (end : ℕ) → 0 < end → end ≤ length bytes → get_or bytes (end - 1) 0 ≡ byte
    → trimmed byte (take (end - 1) bytes) ≡ trimmed byte (take end bytes)
trimmed-at byte bytes end some within is =
    sym (ap (trimmed byte) (front_more bytes end some within ∙ ap (λ b. take (end - 1) bytes ++ b ∷ []) is) ∙ trimmed-more byte (take (end - 1) bytes))

pub trimmed-whole : (byte : ℕ) (bytes : List ℕ) (end : ℕ) → 0 < end → end ≤ length bytes → get_or bytes (end - 1) 0 ≢ byte → take end bytes ≡ trimmed byte (take end bytes)
trimmed-whole byte bytes end some within other =
    let no : (get_or bytes (end - 1) 0 == byte) ≡ false = grind (arith, nat_tests) in
    let front = front_more bytes end some within in
    front ∙ sym (ap (trimmed byte) front ∙ trimmed-ends byte (take (end - 1) bytes) (get_or bytes (end - 1) 0) no)

pub trimmed-none : (byte : ℕ) (bytes : List ℕ) (end : ℕ) → end ≡ 0 → take end bytes ≡ trimmed byte (take end bytes)
unfolding trimmed
trimmed-none byte bytes end none = rw none refl

pub digit_nine : (byte : ℕ) → is_decimal byte ≡ true → byte - 48 ≤ 9
digit_nine byte is = grind (arith, nat_tests)

pub small_if : (t : Bool) (n : ℕ) → n < 4611686018427387904 → IfSome (if t then Some n else None) (λ k. k < 4611686018427387904)
small_if true n small = small
small_if false n small = tt
