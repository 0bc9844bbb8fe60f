-- The first line of a text, up to its first newline.
use Rattle.std.proofs.Common.{◌≡◌, ℕ, zero, suc, ◌<◌, ◌==◌, true, false, List, [], ◌∷◌, length, take, drop, get_or, refl, ap, ◌∙◌, arith}
use Rattle.std.proofs.lemmas.Bool.Decides.{nat_tests}
use Rattle.std.proofs.lemmas.List.Splits.{slice_split-cons_yes, slice_split-cons_no}
use Rattle.std.specs.List.{onto_first}
use Rattle.elf_options.specs.NameLists.{text_lines}

pub first_at : (text : List ℕ) (n : ℕ) → n < length text → get_or text n 0 ≡ 10 → ((k : ℕ) → k < n → get_or text k 0 ≡ 10 → ⊥)
    → text_lines text ≡ take n text ∷ text_lines (drop (suc n) text)
first_at [] n below here before = absurd (omega (arith, below))
first_at (b ∷ text) zero below here before =
    let e : (b == 10) ≡ true = grind (arith, nat_tests) in
    slice_split-cons_yes (λ x. x == 10) b text e
first_at (b ∷ text) (suc n) below here before =
    let other : (b ≡ 10 → ⊥) = before 0 (omega arith) in
    let e : (b == 10) ≡ false = grind (arith, nat_tests, other) in
    slice_split-cons_no (λ x. x == 10) b text e
    ∙ ap (λ lines. onto_first b lines) (first_at text n (omega (arith, below)) here (λ k low. before (suc k) (omega (arith, low))))

pub one_line : (text : List ℕ) → ((k : ℕ) → k < length text → get_or text k 0 ≡ 10 → ⊥) → text_lines text ≡ text ∷ []
one_line [] none = refl
one_line (b ∷ text) none =
    let other : (b ≡ 10 → ⊥) = none 0 (omega arith) in
    let e : (b == 10) ≡ false = grind (arith, nat_tests, other) in
    slice_split-cons_no (λ x. x == 10) b text e
    ∙ ap (λ lines. onto_first b lines) (one_line text (λ k low. none (suc k) (omega (arith, low))))
