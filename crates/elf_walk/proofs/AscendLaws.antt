-- Sorted names ascend, and those after a name are sorted among themselves.
use Rattle.std.proofs.Common.{◌≡◌, ℕ, zero, suc, ◌<◌, Bool, true, false, cond, List, [], ◌∷◌, length, drop, get_or, refl, ap, sym, ◌∙◌, arith, subst}
use Rattle.std.proofs.lemmas.Bool.{both_ways}
use Rattle.std.proofs.lemmas.Cmp.{nat_list_cmp_total, tied_itself}
use Rattle.std.specs.Cmp.{IsTotalOrder}
use Rattle.std.specs.Ordering.{is_gt, nat_cmp, ordering_reverse}
use Rattle.std.specs.Cmp.Lexicographic.{slice_cmp}
use Rattle.std.specs.declared.cmp.Ordering.{Ordering}
use Rattle.std.specs.declared.cmp.Ordering.TheVariants.{Less, Equal, Greater}
use Rattle.elf_walk.specs.Prelude.{AreAfter, Ascends, insert_by, names_following, order, put_all_by}
use Rattle.elf_walk.proofs.OrderLaws.{put_less, put_equal, put_greater}

total : IsTotalOrder (slice_cmp nat_cmp)
total = nat_list_cmp_total

-- THE ORDER

back_of_less : (x y : List ℕ) → order x y ≡ Less → order y x ≡ Greater
back_of_less x y less = total.antisymm y x ∙ ap ordering_reverse less

back_of_greater : (x y : List ℕ) → order x y ≡ Greater → order y x ≡ Less
back_of_greater x y greater = total.antisymm y x ∙ ap ordering_reverse greater

greater_by : (o : Ordering) → is_gt o ≡ true → o ≡ Greater
greater_by Less is = absurd (both_ways false refl is)
greater_by Equal is = absurd (both_ways false refl is)
greater_by Greater is = refl

-- what is after a name that is after another is after that one
further : (low name far : List ℕ) → is_gt (order name low) ≡ true → order name far ≡ Less → is_gt (order far low) ≡ true
further low name far is less =
    let below : order low name ≡ Less = back_of_greater name low (greater_by (order name low) is) in
    ap is_gt (back_of_less low far (total.trans low name far below less))

same_behind : (low name other : List ℕ) → order name other ≡ Equal → is_gt (order name low) ≡ is_gt (order other low)
same_behind low name other same = ap is_gt (total.congr name other low same)

-- THOSE AFTER A NAME

by_order : (low name first : List ℕ) (rest : List (List ℕ))
    → names_following low (insert_by (λ n. n) name rest) ≡ cond (is_gt (order name low)) (insert_by (λ n. n) name (names_following low rest)) (names_following low rest)
    → (o : Ordering) → o ≡ order name first → (bn : Bool) → bn ≡ is_gt (order name low) → (bf : Bool) → bf ≡ is_gt (order first low)
    → names_following low (insert_by (λ n. n) name (first ∷ rest))
    ≡ cond (is_gt (order name low)) (insert_by (λ n. n) name (names_following low (first ∷ rest))) (names_following low (first ∷ rest))
by_order low name first rest ih Less is true bn true bf =
    rw (put_less (λ n. n) name first rest (sym is), sym bn, sym bf, put_less (λ n. n) name first (names_following low rest) (sym is)) refl
by_order low name first rest ih Less is true bn false bf = absurd (both_ways (is_gt (order first low)) (sym bf) (further low name first (sym bn) (sym is)))
by_order low name first rest ih Less is false bn true bf = rw (put_less (λ n. n) name first rest (sym is), sym bn, sym bf) refl
by_order low name first rest ih Less is false bn false bf = rw (put_less (λ n. n) name first rest (sym is), sym bn, sym bf) refl
by_order low name first rest ih Equal is true bn true bf =
    rw (put_equal (λ n. n) name first rest (sym is), sym bn, sym bf, put_equal (λ n. n) name first (names_following low rest) (sym is)) refl
by_order low name first rest ih Equal is true bn false bf =
    absurd (both_ways (is_gt (order first low)) (sym bf) (sym (same_behind low name first (sym is)) ∙ sym bn))
by_order low name first rest ih Equal is false bn true bf =
    absurd (both_ways (is_gt (order name low)) (sym bn) (same_behind low name first (sym is) ∙ sym bf))
by_order low name first rest ih Equal is false bn false bf = rw (put_equal (λ n. n) name first rest (sym is), sym bn, sym bf) refl
by_order low name first rest ih Greater is true bn true bf =
    let inner : names_following low (insert_by (λ n. n) name rest) ≡ insert_by (λ n. n) name (names_following low rest) =
    subst (λ b. names_following low (insert_by (λ n. n) name rest) ≡ cond b (insert_by (λ n. n) name (names_following low rest)) (names_following low rest)) (sym bn) ih in
    rw (put_greater (λ n. n) name first rest (sym is), sym bn, sym bf, put_greater (λ n. n) name first (names_following low rest) (sym is), inner) refl
by_order low name first rest ih Greater is true bn false bf =
    let inner : names_following low (insert_by (λ n. n) name rest) ≡ insert_by (λ n. n) name (names_following low rest) =
    subst (λ b. names_following low (insert_by (λ n. n) name rest) ≡ cond b (insert_by (λ n. n) name (names_following low rest)) (names_following low rest)) (sym bn) ih in
    rw (put_greater (λ n. n) name first rest (sym is), sym bn, sym bf) inner
by_order low name first rest ih Greater is false bn true bf =
    absurd (both_ways (is_gt (order name low)) (sym bn) (further low first name (sym bf) (back_of_greater name first (sym is))))
by_order low name first rest ih Greater is false bn false bf =
    let inner : names_following low (insert_by (λ n. n) name rest) ≡ names_following low rest =
    subst (λ b. names_following low (insert_by (λ n. n) name rest) ≡ cond b (insert_by (λ n. n) name (names_following low rest)) (names_following low rest)) (sym bn) ih in
    rw (put_greater (λ n. n) name first rest (sym is), sym bn, sym bf) inner

one_alone : (low name : List ℕ) (b : Bool) → b ≡ is_gt (order name low)
    → names_following low (name ∷ []) ≡ cond (is_gt (order name low)) (name ∷ []) []
one_alone low name true is = rw (sym is) refl
one_alone low name false is = rw (sym is) refl

put_after : (low name : List ℕ) (names : List (List ℕ))
    → names_following low (insert_by (λ n. n) name names) ≡ cond (is_gt (order name low)) (insert_by (λ n. n) name (names_following low names)) (names_following low names)
unfolding insert_by
put_after low name [] = one_alone low name (is_gt (order name low)) refl
put_after low name (first ∷ rest) =
    by_order low name first rest (put_after low name rest) (order name first) refl (is_gt (order name low)) refl (is_gt (order first low)) refl

one_more : (low name : List ℕ) (names before : List (List ℕ)) (b : Bool) → b ≡ is_gt (order name low)
    → ((all : List (List ℕ)) → put_all_by (λ n. n) (names_following low names) (names_following low all) ≡ names_following low (put_all_by (λ n. n) names all))
    → put_all_by (λ n. n) (names_following low (name ∷ names)) (names_following low before) ≡ names_following low (put_all_by (λ n. n) names (insert_by (λ n. n) name before))
unfolding put_all_by
one_more low name names before true is rest =
    let one : names_following low (insert_by (λ n. n) name before) ≡ insert_by (λ n. n) name (names_following low before) =
    subst (λ b. names_following low (insert_by (λ n. n) name before) ≡ cond b (insert_by (λ n. n) name (names_following low before)) (names_following low before)) (sym is) (put_after low name before) in
    rw (sym is) (ap (λ l. put_all_by (λ n. n) (names_following low names) l) (sym one) ∙ rest (insert_by (λ n. n) name before))
one_more low name names before false is rest =
    let one : names_following low (insert_by (λ n. n) name before) ≡ names_following low before =
    subst (λ b. names_following low (insert_by (λ n. n) name before) ≡ cond b (insert_by (λ n. n) name (names_following low before)) (names_following low before)) (sym is) (put_after low name before) in
    rw (sym is) (ap (λ l. put_all_by (λ n. n) (names_following low names) l) (sym one) ∙ rest (insert_by (λ n. n) name before))

-- those after a name, sorted, are those of the sorted names that are after it
pub order_after : (low : List ℕ) (names before : List (List ℕ))
    → put_all_by (λ n. n) (names_following low names) (names_following low before) ≡ names_following low (put_all_by (λ n. n) names before)
unfolding put_all_by
order_after low [] before = refl
order_after low (name ∷ names) before =
    one_more low name names before (is_gt (order name low)) refl (λ all. order_after low names all)

-- ASCENDING

put_where : (first name : List ℕ) (names : List (List ℕ)) → order first name ≡ Less → AreAfter first names → AreAfter first (insert_by (λ n. n) name names)
unfolding insert_by
put_where first name [] less are = (less, tt)
put_where first name (x ∷ xs) less are = by (order name x) (put_where first name xs less are.1)
  where
    by : (o : Ordering) → AreAfter first (insert_by (λ n. n) name xs)
        → AreAfter first (elim o as (λ _. List (List ℕ)) [ Less ↦ name ∷ x ∷ xs | Equal ↦ x ∷ xs | Greater ↦ x ∷ insert_by (λ n. n) name xs ])
    by Less ih = (less, are)
    by Equal ih = are
    by Greater ih = (are.0, ih)

pub all_behind : (name first : List ℕ) (names : List (List ℕ)) → order name first ≡ Less → AreAfter first names → AreAfter name names
all_behind name first [] less are = tt
all_behind name first (x ∷ xs) less are = (total.trans name first x less are.0, all_behind name first xs less are.1)

pub put_ascends : (name : List ℕ) (names : List (List ℕ)) → Ascends names → Ascends (insert_by (λ n. n) name names)
unfolding insert_by
put_ascends name [] up = (tt, tt)
put_ascends name (x ∷ xs) up = by (order name x) refl (put_ascends name xs up.1)
  where
    by : (o : Ordering) → o ≡ order name x → Ascends (insert_by (λ n. n) name xs)
        → Ascends (elim o as (λ _. List (List ℕ)) [ Less ↦ name ∷ x ∷ xs | Equal ↦ x ∷ xs | Greater ↦ x ∷ insert_by (λ n. n) name xs ])
    by Less is ih = ((sym is, all_behind name x xs (sym is) up.0), up)
    by Equal is ih = up
    by Greater is ih = (put_where x name xs (back_of_greater name x (sym is)) up.0, ih)

pub order_ascends : (names before : List (List ℕ)) → Ascends before → Ascends (put_all_by (λ n. n) names before)
unfolding put_all_by
order_ascends [] before up = up
order_ascends (name ∷ names) before up = order_ascends names (insert_by (λ n. n) name before) (put_ascends name before up)

one_filtered : (first x : List ℕ) (xs : List (List ℕ)) (b : Bool) → order first x ≡ Less → AreAfter first xs → AreAfter first (cond b (x ∷ xs) xs)
one_filtered first x xs true less are = (less, are)
one_filtered first x xs false less are = are

filtered_behind : (low first : List ℕ) (names : List (List ℕ)) → AreAfter first names → AreAfter first (names_following low names)
filtered_behind low first [] are = tt
filtered_behind low first (x ∷ xs) are = one_filtered first x (names_following low xs) (is_gt (order x low)) are.0 (filtered_behind low first xs are.1)

one_ascends : (x : List ℕ) (xs : List (List ℕ)) (b : Bool) → AreAfter x xs → Ascends xs → Ascends (cond b (x ∷ xs) xs)
one_ascends x xs true are up = (are, up)
one_ascends x xs false are up = up

pub after_ascends : (low : List ℕ) (names : List (List ℕ)) → Ascends names → Ascends (names_following low names)
after_ascends low [] up = tt
after_ascends low (x ∷ xs) up = one_ascends x (names_following low xs) (is_gt (order x low)) (filtered_behind low x xs up.0) (after_ascends low xs up.1)

-- WHAT IS AFTER A MEMBER

all_kept : (low : List ℕ) (names : List (List ℕ)) → AreAfter low names → names_following low names ≡ names
all_kept low [] are = refl
all_kept low (x ∷ xs) are = rw (ap is_gt (back_of_less low x are.0)) (ap (λ l. x ∷ l) (all_kept low xs are.1))

member_behind : (first : List ℕ) (names : List (List ℕ)) (k : ℕ) (d : List ℕ) → AreAfter first names → k < length names → order first (get_or names k d) ≡ Less
member_behind first [] k d are within = absurd (omega arith)
member_behind first (x ∷ xs) zero d are within = are.0
member_behind first (x ∷ xs) (suc k) d are within = member_behind first xs k d are.1 (omega arith)

-- what is after a member of names that ascend are those after it
pub after_member : (names : List (List ℕ)) (k : ℕ) (d : List ℕ) → Ascends names → k < length names
    → names_following (get_or names k d) names ≡ drop (suc k) names
after_member [] k d up within = absurd (omega arith)
after_member (x ∷ xs) zero d up within = rw (ap is_gt (tied_itself total x)) (all_kept x xs up.0)
after_member (x ∷ xs) (suc k) d up within =
    rw (ap is_gt (member_behind x xs k d up.0 (omega arith))) (after_member xs k d up.1 (omega arith))

still_behind : (low high name : List ℕ) → order low high ≡ Less → is_gt (order name high) ≡ true → is_gt (order name low) ≡ true
still_behind low high name less is =
    let above : order high name ≡ Less = back_of_greater name high (greater_by (order name high) is) in
    ap is_gt (back_of_less low name (total.trans low high name less above))

one_twice : (low high x : List ℕ) (xs : List (List ℕ)) (a b : Bool) → a ≡ is_gt (order x low) → b ≡ is_gt (order x high) → order low high ≡ Less
    → names_following high (names_following low xs) ≡ names_following high xs → names_following high (cond a (x ∷ names_following low xs) (names_following low xs)) ≡ cond b (x ∷ names_following high xs) (names_following high xs)
one_twice low high x xs true true is was less ih = rw (sym was) (ap (λ l. x ∷ l) ih)
one_twice low high x xs true false is was less ih = rw (sym was) ih
one_twice low high x xs false true is was less ih = absurd (both_ways (is_gt (order x low)) (sym is) (still_behind low high x less (sym was)))
one_twice low high x xs false false is was less ih = ih

-- what is after the higher of two names is after both
pub after_twice : (low high : List ℕ) (names : List (List ℕ)) → order low high ≡ Less → names_following high (names_following low names) ≡ names_following high names
after_twice low high [] less = refl
after_twice low high (x ∷ xs) less =
    one_twice low high x xs (is_gt (order x low)) (is_gt (order x high)) refl refl less (after_twice low high xs less)

one_reached : (low x : List ℕ) (xs : List (List ℕ)) (b : Bool) → b ≡ is_gt (order x low) → AreAfter low xs → AreAfter low (cond b (x ∷ xs) xs)
one_reached low x xs true is are = (back_of_greater x low (greater_by (order x low) (sym is)), are)
one_reached low x xs false is are = are

pub are_after : (low : List ℕ) (names : List (List ℕ)) → AreAfter low (names_following low names)
are_after low [] = tt
are_after low (x ∷ xs) = one_reached low x (names_following low xs) (is_gt (order x low)) refl (are_after low xs)

pub member_is_after : (low : List ℕ) (names : List (List ℕ)) (k : ℕ) (d : List ℕ) → k < length (names_following low names)
    → order low (get_or (names_following low names) k d) ≡ Less
member_is_after low names k d within = member_behind low (names_following low names) k d (are_after low names) within
