-- What a loop over pieces of a name needs.
use Rattle.std.proofs.Common.{◌≡◌, ◌≢◌, ℕ, ◌+◌, ◌<◌, ◌≤◌, ◌==◌, true, false, List, ◌++◌, length, get_or, take, drop, Some, None, Ok, Err, refl, ap, sym, ◌∙◌, arith, length-append, length-take, take-append-drop, take-take}
use Rattle.std.proofs.lemmas.List.Sums.{position_or_len_is}
use Rattle.std.proofs.lemmas.Bool.Decides.{nat_tests}
use Rattle.elf_model.specs.Prelude.{Cut, nul_in, shown, shown_of, slice}
use Rattle.elf_model.specs.declared.causes.Cause.TheVariants.{NameUnended}
use Rattle.elf_model.specs.Names.DisplayedName.{Whole}
use Rattle.elf_model.proofs.Nuls.{free, none-free, free-none, some-free, free-some, free-append, free-within, free-front}
use Rattle.elf_model.proofs.NameLemmas.{shown-inside}
use Rattle.elf_model.proofs.NameLaws.{shown_cut, shown_unended}

-- The first NUL by position: the result of a search for it.
test-false : (b : ℕ) → b ≢ 0 → (b == 0) ≡ false
test-false b h = grind (arith, nat_tests)

test-true : (b : ℕ) → b ≡ 0 → (b == 0) ≡ true
test-true b h = grind (arith, nat_tests)

pub nul_in-first : (bytes : List ℕ) (place : ℕ) → place < length bytes → get_or bytes place 0 ≡ 0 → ((i : ℕ) → i < place → get_or bytes i 0 ≢ 0)
    → nul_in bytes ≡ Some place
nul_in-first bytes place h z before =
    let e : free bytes ≡ place = position_or_len_is (λ b. b == 0) bytes place 0 (omega arith) (λ i l. test-false (get_or bytes i 0) (before i l)) (λ l. test-true (get_or bytes place 0) z) in
    free-some bytes (omega arith) ∙ ap (λ (n : ℕ). Some n) e

pub nul_in-nowhere : (bytes : List ℕ) → ((i : ℕ) → i < length bytes → get_or bytes i 0 ≢ 0) → nul_in bytes ≡ None
nul_in-nowhere bytes before =
    free-none bytes (position_or_len_is (λ b. b == 0) bytes (length bytes) 0 (omega arith) (λ i l. test-false (get_or bytes i 0) (before i l)) (λ l. absurd (omega arith)))

-- The first NUL of a prefix and a piece after it.
pub nul_in-append-none : (front piece : List ℕ) → nul_in front ≡ None → nul_in piece ≡ None → nul_in (front ++ piece) ≡ None
nul_in-append-none front piece p q =
    let e = free-append front piece (none-free front p) in
    let f = none-free piece q in
    free-none (front ++ piece) (omega (arith, length-append front piece))

pub nul_in-append-some : (front piece : List ℕ) (place : ℕ) → nul_in front ≡ None → nul_in piece ≡ Some place
    → nul_in (front ++ piece) ≡ Some (length front + place)
nul_in-append-some front piece place p q =
    let e = free-append front piece (none-free front p) in
    let f = some-free piece place q in
    free-some (front ++ piece) (omega (arith, length-append front piece)) ∙ ap (λ (n : ℕ). Some n) (omega arith)

pub nul_in-take-some : (bytes : List ℕ) (n place : ℕ) → nul_in bytes ≡ Some place → place < n → nul_in (take n bytes) ≡ Some place
nul_in-take-some bytes n place h l =
    let f = some-free bytes place h in
    let e = free-within bytes n (omega arith) (omega arith) in
    free-some (take n bytes) (omega (arith, length-take n bytes)) ∙ ap (λ (k : ℕ). Some k) (omega arith)

pub nul_in-append-front : (front rest : List ℕ) (place : ℕ) → nul_in front ≡ Some place → nul_in (front ++ rest) ≡ Some place
nul_in-append-front front rest place h =
    let f = some-free front place h in
    let e = free-front front rest (omega arith) in
    free-some (front ++ rest) (omega (arith, length-append front rest)) ∙ ap (λ (k : ℕ). Some k) (omega arith)

pub nul_in-whole : (bytes : List ℕ) (n place : ℕ) → nul_in (take n bytes) ≡ Some place → nul_in bytes ≡ Some place
nul_in-whole bytes n place h = ap nul_in (sym (take-append-drop n bytes)) ∙ nul_in-append-front (take n bytes) (drop n bytes) place h

-- What is shown, from a prefix of the bytes at the index.
pub shown-found : (table : List ℕ) (index cap n place : ℕ) → index < length table → n ≤ cap + 1 → nul_in (slice table index n) ≡ Some place
    → shown table index cap ≡ Ok (Whole (slice table index place))
shown-found table index cap n place i l h =
    let front : List ℕ = slice table index (cap + 1) in
    let same : take n front ≡ slice table index n = take-take n (cap + 1) (drop index table) l in
    let there : nul_in (take n front) ≡ Some place = ap nul_in same ∙ h in
    let f = some-free (take n front) place there in
    let k = length-take n front in
    let m = length-take (cap + 1) (drop index table) in
    let whole : nul_in front ≡ Some place = nul_in-whole front n place there in
    shown-inside table index cap i ∙ ap (shown_of cap front) whole ∙ ap (λ (x : List ℕ). Ok (Whole x)) (take-take place (cap + 1) (drop index table) (omega arith))

pub shown-over : (table : List ℕ) (index cap : ℕ) → index + cap < length table → nul_in (slice table index (cap + 1)) ≡ None
    → shown table index cap ≡ Ok (Cut (slice table index cap))
shown-over table index cap l h = (shown_cut table index cap (slice table index cap)).1 (l, h, refl)

pub shown-open : (table : List ℕ) (index cap : ℕ) → index < length table → length table ≤ index + cap → nul_in (drop index table) ≡ None
    → shown table index cap ≡ Err NameUnended
shown-open table index cap i l h = (shown_unended table index cap).1 (i, l, h)
