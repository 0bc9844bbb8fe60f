-- Consecutive rows, and what follows some of them.
use Rattle.std.proofs.Common.{◌≡◌, ℕ, ◌+◌, ◌-◌, ◌≤◌, List, [], ◌∷◌, ◌++◌, refl, sym, ap, ◌∙◌, arith, append_assoc, zero-add}
use Rattle.elf_model.specs.Listing.{ListingItem, Line, Fault, lines_of, each}
use Rattle.elf_model.proofs.ListingLemmas.{rows_split, last_row}

-- lines of a prefix of items are a prefix of all lines
pub lines_front : (xs ys : List ListingItem) → (rest : List ℕ) × (lines_of (xs ++ ys) ≡ lines_of xs ++ rest)
lines_front [] ys = (lines_of ys, refl)
lines_front (Line text ∷ xs) ys =
    let more = lines_front xs ys in (more.0, ap (λ lines. text ++ lines) more.1 ∙ sym (append_assoc text (lines_of xs) more.0))
lines_front (Fault refusal ∷ xs) ys = ([], refl)

pub each-none : (row : ℕ → List ListingItem) → each row 0 0 ≡ []
unfolding each
each-none row = refl

-- one more row
pub each-more : (row : ℕ → List ListingItem) (i : ℕ) → each row 0 (i + 1) ≡ each row 0 i ++ row i
each-more row i = last_row row 0 i ∙ ap (λ index. each row 0 i ++ row index) (zero-add i)

-- some rows, and the others after them
pub each-front : (row : ℕ → List ListingItem) (i count : ℕ) → i ≤ count → (rest : List ListingItem) × (each row 0 count ≡ each row 0 i ++ rest)
each-front row i count within =
    let whole : i + (count - i) ≡ count = omega arith in
    (each row (0 + i) (count - i), ap (each row 0) (sym whole) ∙ rows_split row 0 i (count - i))
