-- Lists with one more element, and with another one at an index.
use Rattle.std.proofs.Common.{◌≡◌, ℕ, zero, suc, ◌+◌, ◌<◌, Bool, true, false, List, [], ◌∷◌, ◌++◌, length, length-append, get_or, set, count_by, refl, arith}
use Rattle.std.specs.Prelude.{None, Some, position}
use Rattle.std.proofs.lemmas.Grind.{common_steps}
use Rattle.std.proofs.lemmas.List.Folds.{position_or_len_push}
use Rattle.std.proofs.lemmas.List.Sums.{count_by-le-length, prefix_len-le-length}

-- the position of the first element that passes a test, with one more element at the end
pub position_push : {X : Type 0} (p : X → Bool) (xs : List X) (y : X) (i : ℕ) → position p xs ≡ Some i → position p (xs ++ y ∷ []) ≡ Some i
position_push p xs y i found = grind (arith, position_or_len_push, length-append)

pub position_push_new : {X : Type 0} (p : X → Bool) (xs : List X) (y : X) → position p xs ≡ None → p y ≡ true → position p (xs ++ y ∷ []) ≡ Some (length xs)
position_push_new p xs y none here = grind (arith, position_or_len_push, length-append, prefix_len-le-length)

pub position_push_other : {X : Type 0} (p : X → Bool) (xs : List X) (y : X) → p y ≡ false → position p (xs ++ y ∷ []) ≡ position p xs
position_push_other p xs y other = grind (arith, position_or_len_push, length-append, prefix_len-le-length)

-- how many elements pass a test, with another element at an index
pub count_by_kept : {X : Type 0} (p : X → Bool) (xs : List X) (i : ℕ) (x d : X) → i < length xs → p (get_or xs i d) ≡ p x → count_by p (set xs i x) ≡ count_by p xs
count_by_kept p [] i x d there same = refl
count_by_kept p (y ∷ xs) zero x d there same = grind (arith, common_steps, same)
count_by_kept p (y ∷ xs) (suc i) x d there same = grind (arith, common_steps, count_by_kept p xs i x d (omega (arith, there)) same)

pub count_by_more : {X : Type 0} (p : X → Bool) (xs : List X) (i : ℕ) (x d : X) → i < length xs → p (get_or xs i d) ≡ false → p x ≡ true → count_by p (set xs i x) ≡ count_by p xs + 1
count_by_more p [] i x d there before after = absurd (omega arith)
count_by_more p (y ∷ xs) zero x d there before after = grind (arith, common_steps, before, after)
count_by_more p (y ∷ xs) (suc i) x d there before after = grind (arith, common_steps, count_by_more p xs i x d (omega (arith, there)) before after)

-- an element that does not pass is not counted, and one that does not count is not among all
pub count_by_push : {X : Type 0} (p : X → Bool) (xs : List X) (x : X) → p x ≡ false → count_by p (xs ++ x ∷ []) ≡ count_by p xs
count_by_push p [] x fails = grind (arith, common_steps, fails)
count_by_push p (y ∷ xs) x fails = grind (arith, common_steps, count_by_push p xs x fails)

pub count_by_less : {X : Type 0} (p : X → Bool) (xs : List X) (i : ℕ) (d : X) → i < length xs → p (get_or xs i d) ≡ false → count_by p xs < length xs
count_by_less p [] i d there fails = absurd (omega arith)
count_by_less p (y ∷ xs) zero d there fails = grind (arith, common_steps, fails, count_by-le-length)
count_by_less p (y ∷ xs) (suc i) d there fails = grind (arith, common_steps, count_by_less p xs i d (omega (arith, there)) fails)

-- an element does not depend on what is in place of one that is missing
pub get_or_either : {X : Type 0} (xs : List X) (i : ℕ) (d e : X) → i < length xs → get_or xs i d ≡ get_or xs i e
get_or_either [] i d e there = absurd (omega arith)
get_or_either (x ∷ xs) zero d e there = refl
get_or_either (x ∷ xs) (suc i) d e there = get_or_either xs i d e (omega (arith, there))
