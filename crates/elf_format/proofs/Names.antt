-- Names of numbers in two consecutive tables.
use Rattle.std.proofs.Common.{◌≡◌, ℕ, ◌≤◌, ◌==◌, nat_le, if◌then◌else◌, Bool, true, false, List, [], ◌∷◌, ◌++◌, length, Bor, Option, None, Some, IfSome, option_copied, append_assoc, refl, arith}
use Rattle.std.specs.Option.{option_or}
use Rattle.std.proofs.lemmas.Bool.Decides.{nat_tests}
use Rattle.elf_model.specs.Text.{name_of}
use Rattle.elf_format.specs.Tables.{are_short}

-- the name in the first table, otherwise in the second
abbrev pub first_of : Option (List ℕ) → Option (List ℕ) → Option (List ℕ)
first_of (Some name) other = Some name
first_of None other = other

pub name_of_both : (names more : List (ℕ × List ℕ)) (n : ℕ) → name_of (names ++ more) n ≡ first_of (name_of names n) (name_of more n)
unfolding name_of
name_of_both [] more n = refl
name_of_both (entry ∷ names) more n = by_cases (n == entry.0) (name_of_both names more n)
  where
    by_cases : (same : Bool) → name_of (names ++ more) n ≡ first_of (name_of names n) (name_of more n)
        → (if same then Some entry.1 else name_of (names ++ more) n) ≡ first_of (if same then Some entry.1 else name_of names n) (name_of more n)
    by_cases true rest = refl
    by_cases false rest = rest

-- if the names of a table have at most a given number of bytes, each that is found in it has
pub short_in : (most : ℕ) (names : List (ℕ × List ℕ)) (n : ℕ) → are_short most names ≡ true → IfSome (name_of names n) (λ name. length name ≤ most)
unfolding name_of
short_in most [] n short = tt
short_in most (entry ∷ names) n short = by_cases (nat_le (length entry.1) most) refl (n == entry.0) (λ fits. short_in most names n (rw fits at short))
  where
    by_cases : (t : Bool) → nat_le (length entry.1) most ≡ t → (same : Bool)
        → (nat_le (length entry.1) most ≡ true → IfSome (name_of names n) (λ name. length name ≤ most))
        → IfSome (if same then Some entry.1 else name_of names n) (λ name. length name ≤ most)
    by_cases true fits true rest = let h : length entry.1 ≤ most = grind (arith, nat_tests) in h
    by_cases true fits false rest = rest fits
    by_cases false fits same rest = let no = rw fits at short in absurd (cc)

pub short_name : (most : ℕ) (names : List (ℕ × List ℕ)) (n : ℕ) (result : Option (Bor (List ℕ))) → are_short most names ≡ true → option_copied result ≡ name_of names n
    → IfSome result (λ name. length name.now ≤ most)
short_name most names n None short is = tt
short_name most names n (Some name) short is = let found = rw (← is) at (short_in most names n short) in found

-- the name of the first of three tables that has one
pub name_of_three : (names more last : List (ℕ × List ℕ)) (n : ℕ) → name_of (names ++ (more ++ last)) n ≡ first_of (name_of (names ++ more) n) (name_of last n)
name_of_three names more last n = rw (← append_assoc names more last) (name_of_both (names ++ more) last n)

pub copied_or : (found other : Option (Bor (List ℕ))) → option_copied (option_or found other) ≡ first_of (option_copied found) (option_copied other)
copied_or None other = refl
copied_or (Some name) other = refl

pub short_or : (most : ℕ) (found other : Option (Bor (List ℕ))) → IfSome found (λ name. length name.now ≤ most) → IfSome other (λ name. length name.now ≤ most)
    → IfSome (option_or found other) (λ name. length name.now ≤ most)
short_or most None other first second = second
short_or most (Some name) other first second = first
