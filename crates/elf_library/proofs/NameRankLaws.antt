-- The ranks of a name, one byte after another.
use Rattle.std.proofs.Common.{◌≡◌, ℕ, ◌+◌, ◌-◌, ◌<◌, ◌≤◌, true, false, List, [], ◌∷◌, length, get_or, take, drop, drop-cons, zero, suc, Option, None, Some, refl, sym, ap, ◌∙◌, arith}
use Rattle.std.proofs.lemmas.List.{take_rest}
use Rattle.elf_model.specs.LoaderCache.{is_digit, name_ranks, number_rank, with_digit}

ranks-digit : (run : Option ℕ) (b : ℕ) (name : List ℕ) → is_digit b ≡ true → name_ranks run (b ∷ name) ≡ name_ranks (Some (with_digit run b)) name
unfolding name_ranks
ranks-digit run b name digit = rw (digit, name_ranks) refl

ranks-other : (n b : ℕ) (name : List ℕ) → is_digit b ≡ false → name_ranks (Some n) (b ∷ name) ≡ number_rank n ∷ name_ranks None (b ∷ name)
unfolding name_ranks
ranks-other n b name digit = rw (digit, name_ranks) refl

ranks-end : (n : ℕ) → name_ranks (Some n) [] ≡ number_rank n ∷ name_ranks None []
unfolding name_ranks
ranks-end n = refl

-- THE LAW: a run goes on with a digit
pub ranks-more : (run : Option ℕ) (name : List ℕ) (i : ℕ) → i < length name → is_digit (get_or name i 0) ≡ true
    → name_ranks run (drop i name) ≡ name_ranks (Some (with_digit run (get_or name i 0))) (drop (i + 1) name)
ranks-more run name i below digit =
    let next : suc i ≡ i + 1 = omega arith in
    ap (name_ranks run) (drop-cons name i 0 below) ∙ ranks-digit run (get_or name i 0) _ digit
    ∙ ap (λ (k : ℕ). name_ranks (Some (with_digit run (get_or name i 0))) (drop k name)) next

-- THE LAW: a run ends at another byte, and at the end
pub ranks-ended : (n : ℕ) (name : List ℕ) (i : ℕ) → i < length name → is_digit (get_or name i 0) ≡ false
    → name_ranks (Some n) (drop i name) ≡ number_rank n ∷ name_ranks None (drop i name)
ranks-ended n name i below digit =
    let cons = drop-cons name i 0 below in
    ap (name_ranks (Some n)) cons ∙ ranks-other n (get_or name i 0) _ digit ∙ ap (λ (rest : List ℕ). number_rank n ∷ name_ranks None rest) (sym cons)

pub ranks-past : (n : ℕ) (rest : List ℕ) → rest ≡ [] → name_ranks (Some n) rest ≡ number_rank n ∷ name_ranks None rest
ranks-past n rest none = rw (none) (ranks-end n)

-- a slice to the end, and one from there
pub rest-is : (name : List ℕ) (i : ℕ) → take (length name - i) (drop i name) ≡ drop i name
rest-is name i = take_rest name i

pub rest-none : (name : List ℕ) (i : ℕ) → length name ≤ i → drop i name ≡ []
rest-none [] zero h = refl
rest-none [] (suc i) h = refl
rest-none (b ∷ name) zero h = absurd (omega (arith, h))
rest-none (b ∷ name) (suc i) h = rest-none name i (omega (arith, h))
