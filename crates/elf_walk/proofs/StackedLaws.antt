-- Names pushed on others, the last one first.
use Rattle.std.proofs.Common.{All, length-take, ◌≡◌, ℕ, zero, suc, ◌<◌, ◌≤◌, ◌-◌, List, [], ◌∷◌, ◌++◌, length, take, drop, get_or, refl, ap, sym, ◌∙◌, arith, subst}
use Rattle.std.proofs.lemmas.List.Elements.{All-cons}
use Rattle.std.proofs.lemmas.List.{take-append-drop, take-append-le}
use Rattle.elf_walk.specs.Stacked.{pushed, stacked}

pub none_left : (names : List (List ℕ)) (n : ℕ) → drop n (take n names) ≡ []
none_left names zero = refl
none_left [] (suc n) = refl
none_left (x ∷ xs) (suc n) = none_left xs n

pub none : (below : List ℕ) → stacked [] below ≡ below
unfolding stacked
none below = refl

pub none_put : (names : List (List ℕ)) (n : ℕ) (below : List ℕ) → below ≡ stacked (drop n (take n names)) below
none_put names n below = sym (ap (λ l. stacked l below) (none_left names n) ∙ none below)

left_of : (names : List (List ℕ)) (n k : ℕ) → k < n → n ≤ length names → drop k (take n names) ≡ get_or names k [] ∷ drop (suc k) (take n names)
left_of names zero k low within = absurd (omega arith)
left_of [] (suc n) k low within = absurd (omega arith)
left_of (x ∷ xs) (suc n) zero low within = refl
left_of (x ∷ xs) (suc n) (suc k) low within = left_of xs n k (omega arith) (omega arith)

pub one_put : (name : List ℕ) (rest : List (List ℕ)) (below : List ℕ) → stacked (name ∷ rest) below ≡ pushed (stacked rest below) name
unfolding stacked
one_put name rest below = refl

-- one more name is pushed, which is before those that are
pub more_put : (names : List (List ℕ)) (n left : ℕ) (below was now : List ℕ) → 0 < left → left ≤ n → n ≤ length names
    → was ≡ stacked (drop left (take n names)) below → now ≡ pushed was (get_or names (left - 1) [])
    → now ≡ stacked (drop (left - 1) (take n names)) below
more_put names n zero below was now some low within are is = absurd (omega arith)
more_put names n (suc k) below was now some low within are is =
    let back : suc k - 1 ≡ k = omega arith in
    let top : now ≡ pushed was (get_or names k []) = subst (λ i. now ≡ pushed was (get_or names i [])) back is in
    let whole : now ≡ stacked (drop k (take n names)) below =
    top ∙ ap (λ l. pushed l (get_or names k [])) are ∙ sym (one_put (get_or names k []) (drop (suc k) (take n names)) below)
    ∙ sym (ap (λ l. stacked l below) (left_of names n k (omega arith) within)) in
    subst (λ i. now ≡ stacked (drop i (take n names)) below) (sym back) whole

-- and it is short, if they are
pub short_put : (names : List (List ℕ)) (n left : ℕ) → 0 < left → left ≤ n → n ≤ length names → length (get_or names (left - 1) []) ≤ 255
    → All (λ name. length name ≤ 255) (drop left (take n names)) → All (λ name. length name ≤ 255) (drop (left - 1) (take n names))
short_put names n zero some low within short all = absurd (omega arith)
short_put names n (suc k) some low within short all =
    let back : suc k - 1 ≡ k = omega arith in
    let one : length (get_or names k []) ≤ 255 = subst (λ i. length (get_or names i []) ≤ 255) back short in
    subst (λ i. All (λ name. length name ≤ 255) (drop i (take n names))) (sym back)
    (subst (All (λ name. length name ≤ 255)) (sym (left_of names n k (omega arith) within))
    (All-cons (λ name. length name ≤ 255) (get_or names k []) (drop (suc k) (take n names)) one all))

-- bytes that begin with others, which begin with others still
pub starts_trans : (a b c : List ℕ) → take (length b) a ≡ b → take (length c) b ≡ c → take (length c) a ≡ c
starts_trans a b c p q =
    let few : length c ≤ length b = omega (arith, ap length q, length-take (length c) b) in
    let whole : a ≡ b ++ drop (length b) a = sym (take-append-drop (length b) a) ∙ ap (λ l. l ++ drop (length b) a) p in
    ap (take (length c)) whole ∙ take-append-le (length c) b (drop (length b) a) few ∙ q
