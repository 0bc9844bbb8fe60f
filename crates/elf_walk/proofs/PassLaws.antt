-- What a pass over names keeps.
use Rattle.std.proofs.Common.{◌≡◌, ℕ, suc, ◌+◌, Bool, true, false, nat_lt, List, [], ◌∷◌, ◌++◌, length, take, get_or, refl, ap, sym, ◌∙◌, arith}
use Rattle.std.proofs.lemmas.Bool.{both_ways, lt-ltb, ltb-true}
use Rattle.elf_walk.specs.Prelude.{IsFront, IsPass, KeepsFirstNames, KeptNames, in_order, names_following}

all_taken : (names : List (List ℕ)) → names ≡ take (length names) names
all_taken [] = refl
all_taken (x ∷ xs) = ap (λ l. x ∷ l) (all_taken xs)

not_below : (n : ℕ) → false ≡ nat_lt n n
not_below n = by (nat_lt n n) refl
  where
    by : (b : Bool) → b ≡ nat_lt n n → false ≡ b
    by true is = absurd (omega (arith, ltb-true n n (sym is)))
    by false is = refl

front_taken : (front : List (List ℕ)) (limit : List ℕ) (rest : List (List ℕ)) → front ++ limit ∷ [] ≡ take (length (front ++ limit ∷ [])) (front ++ limit ∷ rest)
front_taken [] limit rest = refl
front_taken (x ∷ xs) limit rest = ap (λ l. x ∷ l) (front_taken xs limit rest)

counted : (front : List (List ℕ)) (limit : List ℕ) → length (front ++ limit ∷ []) ≡ suc (length front)
counted [] limit = refl
counted (x ∷ xs) limit = ap suc (counted xs limit)

counted_all : (front : List (List ℕ)) (limit next : List ℕ) (rest : List (List ℕ)) → length (front ++ limit ∷ next ∷ rest) ≡ suc (suc (length front + length rest))
counted_all [] limit next rest = omega arith
counted_all (x ∷ xs) limit next rest = let shorter_by_one = counted_all xs limit next rest in omega arith

shorter : (front : List (List ℕ)) (limit next : List ℕ) (rest : List (List ℕ)) → true ≡ nat_lt (length (front ++ limit ∷ [])) (length (front ++ limit ∷ next ∷ rest))
shorter front limit next rest =
    sym (lt-ltb (length (front ++ limit ∷ [])) (length (front ++ limit ∷ next ∷ rest)) (omega (arith, counted front limit, counted_all front limit next rest)))

at_limit : (front : List (List ℕ)) (limit : List ℕ) (rest : List (List ℕ)) (d : List ℕ) → limit ≡ get_or (front ++ limit ∷ rest) (length front) d
at_limit [] limit rest d = refl
at_limit (x ∷ xs) limit rest d = at_limit xs limit rest d

by_more : (names : List (List ℕ)) (kept all : List (List ℕ)) (after limit : List ℕ) (more : Bool) → all ≡ in_order (names_following after names)
    → IsFront limit more kept all → IsPass names (record { names = kept; after = after; limit = limit; more = more; held = [] })
by_more names kept all after limit false is front = record {
  first = front ∙ all_taken all ∙ ap (λ l. take (length l) all) (sym front) ∙ ap (λ l. take (length kept) l) is;
  more = not_below (length all) ∙ ap (λ l. nat_lt (length l) (length all)) (sym front) ∙ ap (λ l. nat_lt (length kept) (length l)) is;
  last = λ false_is. absurd (both_ways false refl false_is);
}
by_more names kept all after limit true is front =
    let whole = sym front.all_is ∙ is in
    record {
      first = front.kept_is ∙ front_taken front.front limit (front.next ∷ front.rest) ∙ ap (λ l. take (length l) (front.front ++ limit ∷ front.next ∷ front.rest)) (sym front.kept_is) ∙ ap (λ l. take (length kept) l) whole;
      more = shorter front.front limit front.next front.rest ∙ ap (λ l. nat_lt (length l) (length (front.front ++ limit ∷ front.next ∷ front.rest))) (sym front.kept_is) ∙ ap (λ l. nat_lt (length kept) (length l)) whole;
      last = λ true_is. (length front.front, ap length front.kept_is ∙ counted front.front limit, at_limit front.front limit (front.next ∷ front.rest) after ∙ ap (λ l. get_or l (length front.front) after) whole);
    }

pub pass_keeps : (names : List (List ℕ)) (kept : KeptNames) → KeepsFirstNames names kept → IsPass names kept
pass_keeps names kept front =
    let p = by_more names kept.names (in_order (names_following kept.after names)) kept.after kept.limit kept.more refl front in
    record { first = p.first; more = p.more; last = p.last }
