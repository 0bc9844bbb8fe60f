-- Sorted names are determined by which names they are.
use Rattle.std.proofs.Common.{◌≡◌, ℕ, Bool, true, false, ◌||◌, List, [], ◌∷◌, refl, ap, sym, ◌∙◌, subst}
use Rattle.std.proofs.lemmas.Bool.{both_ways}
use Rattle.std.proofs.lemmas.Cmp.{nat_list_cmp_total, tied_itself}
use Rattle.std.proofs.lemmas.List.Sorted.{list_any-IsPermutation}
use Rattle.std.proofs.lemmas.Map.Text.{is_eq-slice_cmp}
use Rattle.std.proofs.lemmas.Slice.Eq.{bytes_eq-Decides}
use Rattle.std.specs.Cmp.{IsTotalOrder}
use Rattle.std.specs.List.{list_any}
use Rattle.std.specs.List.Sorted.{IsPermutation}
use Rattle.std.specs.Ordering.{is_eq, nat_cmp, ordering_reverse}
use Rattle.std.specs.Cmp.Lexicographic.{slice_cmp}
use Rattle.std.specs.declared.cmp.Ordering.{Ordering}
use Rattle.std.specs.declared.cmp.Ordering.TheVariants.{Less, Equal, Greater}
use Rattle.elf_walk.specs.Prelude.{AreAfter, Ascends, in_order, insert_by, order, put_all_by}
use Rattle.elf_walk.proofs.AscendLaws.{all_behind, order_ascends}

total : IsTotalOrder (slice_cmp nat_cmp)
total = nat_list_cmp_total

-- whether a name is one of others
abbrev has : List ℕ → List (List ℕ) → Bool
has name names = list_any (λ n. is_eq (order name n)) names

-- names that compare equal are the same
pub same_name : (x y : List ℕ) → order x y ≡ Equal → x ≡ y
same_name x y equal = (bytes_eq-Decides x y).0 (sym (is_eq-slice_cmp x y) ∙ ap is_eq equal)

swapped : (a b c : Bool) → (b || (a || c)) ≡ (a || (b || c))
swapped true true c = refl
swapped true false c = refl
swapped false true c = refl
swapped false false c = refl

joined : (a b c : Bool) → (b || (a || c)) ≡ ((a || b) || c)
joined true true c = refl
joined true false c = refl
joined false true c = refl
joined false false c = refl

twice : (a c : Bool) → (a || c) ≡ (a || (a || c))
twice true c = refl
twice false c = refl

as_other : (z x y : List ℕ) → order x y ≡ Equal → is_eq (order z x) ≡ is_eq (order z y)
as_other z x y equal = ap (λ n. is_eq (order z n)) (same_name x y equal)

put_has : (z x : List ℕ) (names : List (List ℕ)) → has z (insert_by (λ n. n) x names) ≡ (is_eq (order z x) || has z names)
unfolding insert_by
put_has z x [] = refl
put_has z x (first ∷ rest) = by (order x first) refl (put_has z x rest)
  where
    by : (o : Ordering) → o ≡ order x first → has z (insert_by (λ n. n) x rest) ≡ (is_eq (order z x) || has z rest)
        → has z (elim o as (λ _. List (List ℕ)) [ Less ↦ x ∷ first ∷ rest | Equal ↦ first ∷ rest | Greater ↦ first ∷ insert_by (λ n. n) x rest ])
        ≡ (is_eq (order z x) || (is_eq (order z first) || has z rest))
    by Less is ih = refl
    by Equal is ih =
        ap (λ b. b || has z rest) (sym (as_other z x first (sym is)))
        ∙ twice (is_eq (order z x)) (has z rest)
        ∙ ap (λ b. is_eq (order z x) || (b || has z rest)) (as_other z x first (sym is))
    by Greater is ih = ap (λ b. is_eq (order z first) || b) ih ∙ swapped (is_eq (order z x)) (is_eq (order z first)) (has z rest)

all_has : (z : List ℕ) (names before : List (List ℕ)) → has z (put_all_by (λ n. n) names before) ≡ (has z names || has z before)
unfolding put_all_by
all_has z [] before = refl
all_has z (x ∷ xs) before =
    all_has z xs (insert_by (λ n. n) x before) ∙ ap (λ b. has z xs || b) (put_has z x before)
    ∙ joined (is_eq (order z x)) (has z xs) (has z before)

-- a name that all others are after is not one of them
none_behind : (low : List ℕ) (names : List (List ℕ)) → AreAfter low names → has low names ≡ false
none_behind low [] are = refl
none_behind low (x ∷ xs) are = rw (are.0) (none_behind low xs are.1)

itself : (x : List ℕ) (xs : List (List ℕ)) → has x (x ∷ xs) ≡ true
itself x xs = ap (λ o. is_eq o || has x xs) (tied_itself total x)

tails : (z x : List ℕ) (xs ys : List (List ℕ)) (b : Bool) → b ≡ is_eq (order z x) → AreAfter x xs → AreAfter x ys
    → (is_eq (order z x) || has z xs) ≡ (is_eq (order z x) || has z ys) → has z xs ≡ has z ys
tails z x xs ys true is ax ay same =
    let z_is : z ≡ x = (bytes_eq-Decides z x).0 (sym (is_eq-slice_cmp z x) ∙ sym is) in
    ap (λ n. has n xs) z_is ∙ none_behind x xs ax ∙ sym (ap (λ n. has n ys) z_is ∙ none_behind x ys ay)
tails z x xs ys false is ax ay same = rw (sym is) at same

-- names that ascend are the same if they are the same names
unique : (xs ys : List (List ℕ)) → Ascends xs → Ascends ys → ((z : List ℕ) → has z xs ≡ has z ys) → xs ≡ ys
unique [] [] ax ay same = refl
unique [] (y ∷ ys) ax ay same = absurd (both_ways (has y (y ∷ ys)) (sym (same y)) (itself y ys))
unique (x ∷ xs) [] ax ay same = absurd (both_ways (has x (x ∷ xs)) (same x) (itself x xs))
unique (x ∷ xs) (y ∷ ys) ax ay same = by (order x y) refl (λ alike. unique xs ys ax.1 ay.1 alike)
  where
    by : (o : Ordering) → o ≡ order x y → (((z : List ℕ) → has z xs ≡ has z ys) → xs ≡ ys) → (x ∷ xs) ≡ (y ∷ ys)
    by Less is rest = absurd (both_ways (has x (x ∷ xs)) (same x ∙ none_behind x (y ∷ ys) (sym is, all_behind x y ys (sym is) ay.0)) (itself x xs))
    by Greater is rest =
        let back : order y x ≡ Less = total.antisymm y x ∙ ap ordering_reverse (sym is) in
        absurd (both_ways (has y (y ∷ ys)) (sym (same y) ∙ none_behind y (x ∷ xs) (back, all_behind y x xs back ax.0)) (itself y ys))
    by Equal is rest =
        let one : x ≡ y = same_name x y (sym is) in
        let behind : AreAfter x ys = subst (λ n. AreAfter n ys) (sym one) ay.0 in
        let alike = rest (λ z. tails z x xs ys (is_eq (order z x)) refl ax.0 behind
        (same z ∙ ap (λ n. is_eq (order z n) || has z ys) (sym one))) in
        ap (λ n. n ∷ xs) one ∙ ap (λ l. y ∷ l) alike

no_more : (b : Bool) → (b || false) ≡ b
no_more true = refl
no_more false = refl

-- the order does not depend on how the names are read
pub permuted : (xs ys : List (List ℕ)) → IsPermutation xs ys → in_order xs ≡ in_order ys
permuted xs ys moved =
    unique (in_order xs) (in_order ys) (order_ascends xs [] tt) (order_ascends ys [] tt)
    (λ z. all_has z xs [] ∙ no_more (has z xs) ∙ list_any-IsPermutation (λ n. is_eq (order z n)) xs ys moved
    ∙ sym (all_has z ys [] ∙ no_more (has z ys)))

-- names that ascend are sorted
pub stays : (xs : List (List ℕ)) → Ascends xs → in_order xs ≡ xs
stays xs up = unique (in_order xs) xs (order_ascends xs [] tt) up (λ z. all_has z xs [] ∙ no_more (has z xs))
