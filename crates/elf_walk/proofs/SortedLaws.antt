-- Sorted names put one after another, without duplicates.
use Rattle.std.proofs.Common.{◌≡◌, ℕ, zero, suc, ◌<◌, ◌≤◌, ◌-◌, Bool, true, false, List, [], ◌∷◌, ◌++◌, length, take, get_or, refl, ap, sym, add-one, ◌∙◌, arith, subst}
use Rattle.std.proofs.Math.Seq.{take-suc}
use Rattle.std.proofs.lemmas.Bool.{both_ways}
use Rattle.std.proofs.lemmas.Cmp.{nat_list_cmp_total, tied_itself}
use Rattle.std.proofs.lemmas.List.Sorted.{ranks_by, sorted_far}
use Rattle.std.proofs.lemmas.Slice.Eq.{bytes_eq-Decides}
use Rattle.std.specs.Cmp.{IsTotalOrder}
use Rattle.std.specs.List.Sorted.{IsSorted}
use Rattle.std.specs.Ordering.{is_lt, nat_cmp, ordering_reverse}
use Rattle.std.specs.Prelude.{⊤, bytes_eq}
use Rattle.std.specs.Cmp.Lexicographic.{slice_cmp}
use Rattle.std.specs.declared.cmp.Ordering.{Ordering}
use Rattle.std.specs.declared.cmp.Ordering.TheVariants.{Less, Equal, Greater}
use Rattle.elf_walk.specs.Prelude.{in_order, insert_by, order, put_all_by, repeats}
use Rattle.elf_walk.proofs.MemberLaws.{same_name}
use Rattle.elf_walk.proofs.OrderLaws.{put_equal, put_greater}

total : IsTotalOrder (slice_cmp nat_cmp)
total = nat_list_cmp_total

-- one name more
pub all_more : (xs : List (List ℕ)) (x : List ℕ) (before : List (List ℕ))
    → put_all_by (λ n. n) (xs ++ x ∷ []) before ≡ insert_by (λ n. n) x (put_all_by (λ n. n) xs before)
unfolding put_all_by
all_more [] x before = refl
all_more (y ∷ ys) x before = all_more ys x (insert_by (λ n. n) y before)

more_taken : (names : List (List ℕ)) (i : ℕ) → i < length names
    → in_order (take (suc i) names) ≡ insert_by (λ n. n) (get_or names i []) (in_order (take i names))
more_taken names i within =
    ap in_order (take-suc names i [] within) ∙ all_more (take i names) (get_or names i []) []

put_twice : (x : List ℕ) (xs : List (List ℕ)) → insert_by (λ n. n) x (insert_by (λ n. n) x xs) ≡ insert_by (λ n. n) x xs
unfolding insert_by
put_twice x [] = put_equal (λ n. n) x x [] (tied_itself total x)
put_twice x (first ∷ rest) = by (order x first) refl (put_twice x rest)
  where
    by : (o : Ordering) → o ≡ order x first → insert_by (λ n. n) x (insert_by (λ n. n) x rest) ≡ insert_by (λ n. n) x rest
        → insert_by (λ n. n) x (elim o as (λ _. List (List ℕ)) [ Less ↦ x ∷ first ∷ rest | Equal ↦ first ∷ rest | Greater ↦ first ∷ insert_by (λ n. n) x rest ])
        ≡ elim o as (λ _. List (List ℕ)) [ Less ↦ x ∷ first ∷ rest | Equal ↦ first ∷ rest | Greater ↦ first ∷ insert_by (λ n. n) x rest ]
    by Less is ih = put_equal (λ n. n) x x (first ∷ rest) (tied_itself total x)
    by Equal is ih = put_equal (λ n. n) x first rest (sym is)
    by Greater is ih = put_greater (λ n. n) x first (insert_by (λ n. n) x rest) (sym is) ∙ ap (λ l. first ∷ l) ih

-- a name that repeats the one before it adds none
pub repeated : (names : List (List ℕ)) (i : ℕ) → i < length names → repeats names i ≡ true → in_order (take i names) ≡ in_order (take (suc i) names)
repeated names zero within is = absurd (both_ways false refl is)
repeated names (suc j) within is =
    let same : get_or names (suc j) [] ≡ get_or names j [] =
    (bytes_eq-Decides (get_or names (suc j) []) (get_or names j [])).0 is in
    let one = more_taken names j (omega arith) in
    let both : in_order (take (suc (suc j)) names) ≡ in_order (take (suc j) names) =
    more_taken names (suc j) within ∙ ap (λ n. insert_by (λ n. n) n (in_order (take (suc j) names))) same
    ∙ ap (λ l. insert_by (λ n. n) (get_or names j []) l) one ∙ put_twice (get_or names j []) (in_order (take j names)) ∙ sym one in
    sym both

-- each of the names is below another
abbrev Below : List ℕ → List (List ℕ) → Type 0
Below x [] = ⊤
Below x (y ∷ ys) = (order y x ≡ Less) × Below x ys

back_of_less : (x y : List ℕ) → order x y ≡ Less → order y x ≡ Greater
back_of_less x y less = total.antisymm y x ∙ ap ordering_reverse less

back_of_greater : (x y : List ℕ) → order x y ≡ Greater → order y x ≡ Less
back_of_greater x y greater = total.antisymm y x ∙ ap ordering_reverse greater

at_end : (x : List ℕ) (ys : List (List ℕ)) → Below x ys → insert_by (λ n. n) x ys ≡ ys ++ x ∷ []
unfolding insert_by
at_end x [] are = refl
at_end x (y ∷ ys) are = put_greater (λ n. n) x y ys (back_of_less y x are.0) ∙ ap (λ l. y ∷ l) (at_end x ys are.1)

put_below : (x y : List ℕ) (ys : List (List ℕ)) → order y x ≡ Less → Below x ys → Below x (insert_by (λ n. n) y ys)
unfolding insert_by
put_below x y [] less are = (less, tt)
put_below x y (first ∷ rest) less are = by (order y first) (put_below x y rest less are.1)
  where
    by : (o : Ordering) → Below x (insert_by (λ n. n) y rest)
        → Below x (elim o as (λ _. List (List ℕ)) [ Less ↦ y ∷ first ∷ rest | Equal ↦ first ∷ rest | Greater ↦ first ∷ insert_by (λ n. n) y rest ])
    by Less ih = (less, are)
    by Equal ih = are
    by Greater ih = (are.0, ih)

all_below : (x : List ℕ) (xs before : List (List ℕ)) → Below x xs → Below x before → Below x (put_all_by (λ n. n) xs before)
unfolding put_all_by
all_below x [] before are were = were
all_below x (y ∷ ys) before are were = all_below x ys (insert_by (λ n. n) y before) are.1 (put_below x y before are.0 were)

below_more : (x y : List ℕ) (xs : List (List ℕ)) → Below x xs → order y x ≡ Less → Below x (xs ++ y ∷ [])
below_more x y [] are less = (less, tt)
below_more x y (z ∷ zs) are less = (are.0, below_more x y zs are.1 less)

not_repeated : (a b : List ℕ) → bytes_eq a b ≡ false → is_lt (order a b) ≡ false → order b a ≡ Less
not_repeated a b other high = by (order b a) refl
  where
    by : (o : Ordering) → o ≡ order b a → order b a ≡ Less
    by Less is = sym is
    by Equal is = absurd (both_ways (bytes_eq a b) other ((bytes_eq-Decides a b).1 (sym (same_name b a (sym is)))))
    by Greater is = absurd (both_ways (is_lt (order a b)) high (ap is_lt (back_of_greater b a (sym is))))

below_by : (a b x : List ℕ) → is_lt (order b a) ≡ false → order b x ≡ Less → order a x ≡ Less
below_by a b x high less = by (order a b) refl
  where
    by : (o : Ordering) → o ≡ order a b → order a x ≡ Less
    by Less is = total.trans a b x (sym is) less
    by Equal is = total.congr a b x (sym is) ∙ less
    by Greater is = absurd (both_ways (is_lt (order b a)) high (ap is_lt (back_of_greater a b (sym is))))

taken_below : (x : List ℕ) (names : List (List ℕ)) (n : ℕ) → n ≤ length names → ((k : ℕ) → k < n → order (get_or names k []) x ≡ Less) → Below x (take n names)
taken_below x names zero within each = tt
taken_below x names (suc n) within each =
    let rest : Below x (take n names) = taken_below x names n (omega arith) (λ k low. each k (omega arith)) in
    subst (λ l. Below x l) (sym (take-suc names n [] (omega arith))) (below_more x (get_or names n []) (take n names) rest (each n (omega arith)))

first_put : (x : List ℕ) → [] ++ x ∷ [] ≡ insert_by (λ n. n) x (put_all_by (λ n. n) [] [])
unfolding put_all_by insert_by
first_put x = refl

pub none_put : put_all_by (λ (n : List ℕ). n) [] [] ≡ []
unfolding put_all_by
none_put = refl

-- a name of sorted ones that is not the one before it is inserted after all before it
pub added : (names : List (List ℕ)) (i : ℕ) → i < length names → IsSorted order names → repeats names i ≡ false
    → in_order (take i names) ++ get_or names i [] ∷ [] ≡ in_order (take (suc i) names)
added names zero within sorted is = ap (λ l. l ++ get_or names zero [] ∷ []) none_put ∙ first_put (get_or names zero []) ∙ sym (more_taken names zero within)
added names (suc j) within sorted is =
    let adjacent : is_lt (order (get_or names (suc j) []) (get_or names j [])) ≡ false = rw (add-one) at (sorted j [] (omega arith) (omega arith)) in
    let last : order (get_or names j []) (get_or names (suc j) []) ≡ Less =
    not_repeated (get_or names (suc j) []) (get_or names j []) is adjacent in
    let each : (k : ℕ) → k < suc j → order (get_or names k []) (get_or names (suc j) []) ≡ Less =
    λ k low. below_by (get_or names k []) (get_or names j []) (get_or names (suc j) [])
    (sorted_far (λ a b. is_lt (order a b)) (ranks_by total (λ n. n)) names sorted k j [] (omega arith) (omega arith)) last in
    let below = taken_below (get_or names (suc j) []) names (suc j) (omega arith) each in
    sym (more_taken names (suc j) within ∙ at_end (get_or names (suc j) []) (in_order (take (suc j) names)) (all_below (get_or names (suc j) []) (take (suc j) names) [] below tt))

-- what is tested of two neighbours
pub repeats_is : (names : List (List ℕ)) (i : ℕ) (r : Bool) → 0 < i → r ≡ bytes_eq (get_or names i []) (get_or names (i - 1) []) → r ≡ repeats names i
repeats_is names zero r some is = absurd (omega arith)
repeats_is names (suc j) r some is =
    let back : suc j - 1 ≡ j = omega arith in
    is ∙ ap (λ k. bytes_eq (get_or names (suc j) []) (get_or names k [])) back
