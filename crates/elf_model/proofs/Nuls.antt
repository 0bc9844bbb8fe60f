-- The first NUL of some bytes.
use Rattle.std.proofs.Common.{◌≡◌, ℕ, ◌+◌, ◌<◌, ◌≤◌, ◌==◌, not, List, ◌∷◌, ◌++◌, length, get_or, take, drop, Some, None, refl, arith, length-take, take-append-drop, length-take-le, get_or-take, le_of_eq}
use Rattle.std.specs.List.{position_or_len}
use Rattle.std.proofs.lemmas.List.Folds.{prefix_len-append}
use Rattle.std.proofs.lemmas.List.Sums.{prefix_len-le-length, split_at_first, prefix_len_is, prefix_len_passes, prefix_len_stops}
use Rattle.std.proofs.lemmas.Bool.Decides.{nat_tests}
use Rattle.elf_model.specs.Names.{nul_in}

-- the position of the first NUL, or the number of bytes
abbrev pub free : List ℕ → ℕ
free bytes = position_or_len (λ b. b == 0) bytes

pub free-le : (bytes : List ℕ) → free bytes ≤ length bytes
free-le bytes = prefix_len-le-length (λ b. not (b == 0)) bytes

pub none-free : (bytes : List ℕ) → nul_in bytes ≡ None → free bytes ≡ length bytes
none-free bytes h = let l = free-le bytes in grind (arith, nat_tests)

pub free-none : (bytes : List ℕ) → free bytes ≡ length bytes → nul_in bytes ≡ None
free-none bytes h = grind (arith, nat_tests)

pub some-free : (bytes : List ℕ) (place : ℕ) → nul_in bytes ≡ Some place → (free bytes ≡ place) × (place < length bytes)
some-free bytes place h = grind (arith, nat_tests)

pub free-some : (bytes : List ℕ) → free bytes < length bytes → nul_in bytes ≡ Some (free bytes)
free-some bytes h = grind (arith, nat_tests)

-- after bytes without a NUL the first one is the first of the rest
pub free-append : (bytes rest : List ℕ) → free bytes ≡ length bytes → free (bytes ++ rest) ≡ length bytes + free rest
free-append bytes rest h = let e = prefix_len-append (λ b. not (b == 0)) bytes rest in grind (arith, nat_tests)

-- bytes before the first NUL have none
pub free-take : (bytes : List ℕ) (n : ℕ) → n ≤ free bytes → free (take n bytes) ≡ length (take n bytes)
free-take bytes n h =
    let long : length (take n bytes) ≡ n = length-take-le n bytes (omega (arith, free-le bytes)) in
    prefix_len_is (λ b. not (b == 0)) (take n bytes) (length (take n bytes)) 0 (le_of_eq refl)
    (λ k below. rw (get_or-take n bytes k 0 (omega arith)) (prefix_len_passes (λ b. not (b == 0)) bytes k 0 (omega arith)))
    (λ below. absurd (omega arith))

-- at the first NUL
pub split_at_nul : (bytes : List ℕ) → free bytes < length bytes → bytes ≡ take (free bytes) bytes ++ 0 ∷ drop (free bytes + 1) bytes
split_at_nul bytes h =
    let stop = prefix_len_stops (λ b. not (b == 0)) bytes 0 h in
    let zero_there : get_or bytes (free bytes) 0 ≡ 0 = grind (arith, nat_tests) in
    rw zero_there at (split_at_first (λ b. b == 0) bytes 0 h)

-- a prefix that reaches past the first NUL has it at the same position
pub free-within : (bytes : List ℕ) (n : ℕ) → free bytes < n → free bytes < length bytes → free (take n bytes) ≡ free bytes
free-within bytes n below inside =
    let whole = take-append-drop n bytes in
    let e = prefix_len-append (λ b. not (b == 0)) (take n bytes) (drop n bytes) in
    let f = rw whole at e in
    let l = length-take n bytes in
    grind (arith, nat_tests)

-- a NUL in a prefix is the first of the whole
pub free-front : (front rest : List ℕ) → free front < length front → free (front ++ rest) ≡ free front
free-front front rest h = let e = prefix_len-append (λ b. not (b == 0)) front rest in grind (arith, nat_tests)
