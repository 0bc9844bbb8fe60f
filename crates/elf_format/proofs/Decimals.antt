-- Decimal numbers in cells of spaces.
use Rattle.std.proofs.Common.{◌≡◌, ℕ, zero, suc, ◌+◌, ◌-◌, ◌^◌, ◌<◌, ◌≤◌, List, [], ◌∷◌, ◌++◌, length, take, drop, decimal, set, refl, sym, ap, ap₂, ◌∙◌, append_assoc, length-append, take-append-drop, arith}
use Rattle.std.proofs.lemmas.Fmt.{length-decimal-le}
use Rattle.std.proofs.lemmas.List.{drop-take, length-replicate}
use Rattle.elf_model.specs.Text.{right_in, spaces}

-- a number of 16 bits has at most five digits
pub five_digits : (n : ℕ) → n < 65536 → length (decimal n) ≤ 5
five_digits n small = length-decimal-le 5 n (omega arith) (omega (arith, small)) (omega (arith, small))

-- one of 32 bits ten
pub ten_digits : (n : ℕ) → n < 2 ^ 32 → length (decimal n) ≤ 10
ten_digits n small = length-decimal-le 10 n (omega arith) (omega (arith, small)) (omega (arith, small))

-- and one of 64 bits twenty
pub twenty_digits : (n : ℕ) → n < 2 ^ 64 → length (decimal n) ≤ 20
twenty_digits n small = length-decimal-le 20 n (omega arith) (omega (arith, small)) small

-- fewer spaces are left
drop_spaces : (from count : ℕ) (text : List ℕ) → from ≤ count → drop from (spaces count ++ text) ≡ spaces (count - from) ++ text
drop_spaces zero count text few =
    let all : count - 0 ≡ count = omega arith in rw all refl
drop_spaces (suc from) zero text few = absurd (omega (arith, few))
drop_spaces (suc from) (suc count) text few =
    let less : suc count - suc from ≡ count - from = omega arith in rw less (drop_spaces from count text (omega (arith, few)))

-- a cell from an index on is the number, right-aligned in a column
pub cell_from : (from start width end n : ℕ) → from ≤ start → start - from ≡ width - length (decimal n)
    → drop from (spaces start ++ (decimal n ++ end ∷ [])) ≡ right_in width (decimal n) ++ end ∷ []
unfolding right_in
cell_from from start width end n inside same =
    rw (drop_spaces from start (decimal n ++ end ∷ []) inside, same) (sym (append_assoc (spaces (width - length (decimal n))) (decimal n) (end ∷ [])))

-- the first of spaces are spaces
take_spaces : (few count : ℕ) → few ≤ count → take few (spaces count) ≡ spaces few
take_spaces zero count within = refl
take_spaces (suc few) zero within = absurd (omega (arith, within))
take_spaces (suc few) (suc count) within = ap (λ xs. 32 ∷ xs) (take_spaces few count (omega (arith, within)))

-- a byte is set after a text
set_behind : (text more : List ℕ) (n byte end : ℕ) → length text ≡ n → take (suc n) (set (text ++ byte ∷ more) n end) ≡ text ++ end ∷ []
set_behind [] more zero byte end is = refl
set_behind [] more (suc n) byte end is = absurd (omega (arith, is))
set_behind (x ∷ text) more zero byte end is = absurd (omega (arith, is))
set_behind (x ∷ text) more (suc n) byte end is = ap (λ xs. x ∷ xs) (set_behind text more n byte end (omega (arith, is)))

-- the number and the byte after it, in a cell of spaces
pub cell_text : (cell : List ℕ) (start n end : ℕ) → start + length (decimal n) ≡ 20
    → take start cell ≡ take start (spaces 24) → drop start cell ≡ decimal n ++ drop 20 (spaces 24)
    → take 21 (set cell 20 end) ≡ spaces start ++ (decimal n ++ end ∷ [])
cell_text cell start n end is before written =
    let few : start ≤ 24 = omega (arith, is) in
    let text = spaces start ++ decimal n in
    let long : length text ≡ 20 = omega (arith, is, length-append (spaces start) (decimal n), length-replicate {A = ℕ} start 32) in
    let whole : cell ≡ text ++ spaces 4 =
    sym (take-append-drop start cell) ∙ ap₂ (λ xs ys. xs ++ ys) (before ∙ take_spaces start 24 few) written ∙ sym (append_assoc (spaces start) (decimal n) (spaces 4)) in
    rw whole (set_behind text (spaces 3) 20 32 end long ∙ append_assoc (spaces start) (decimal n) (end ∷ []))

-- a part of the cell is the number, right-aligned in a column
pub cell_part : (cell : List ℕ) (from start width end n : ℕ) → take 21 cell ≡ spaces start ++ (decimal n ++ end ∷ [])
    → from ≤ start → start ≤ 20 → start - from ≡ width - length (decimal n)
    → take (21 - from) (drop from cell) ≡ right_in width (decimal n) ++ end ∷ []
cell_part cell from start width end n text inside small same =
    let whole : from + (21 - from) ≡ 21 = omega (arith, inside, small) in
    let part = sym (drop-take from (21 - from) cell) in
    let cut = rw (whole, text) at part in
    cut ∙ cell_from from start width end n inside same
