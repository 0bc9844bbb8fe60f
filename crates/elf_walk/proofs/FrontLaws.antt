-- What is kept when a name is inserted, and when the last ones are dropped.
use Rattle.std.proofs.Common.{◌≡◌, ℕ, zero, suc, ◌<◌, Bool, true, false, not, ◌&&◌, ◌||◌, cond, List, [], ◌∷◌, ◌++◌, length, take, drop, get_or, refl, ap, sym, ◌∙◌, arith, append_assoc, subst}
use Rattle.std.proofs.lemmas.Bool.{both_ways}
use Rattle.std.proofs.lemmas.Cmp.{nat_list_cmp_total}
use Rattle.std.specs.Cmp.{IsTotalOrder}
use Rattle.std.specs.Ordering.{is_gt, is_lt, nat_cmp, ordering_reverse}
use Rattle.std.specs.Cmp.Lexicographic.{slice_cmp}
use Rattle.std.specs.declared.cmp.Ordering.{Ordering}
use Rattle.std.specs.declared.cmp.Ordering.TheVariants.{Less, Equal, Greater}
use Rattle.elf_walk.specs.Prelude.{AreAfter, Ascends, IsCutFront, IsFront, in_order, insert_by, names_following, order}
use Rattle.elf_walk.proofs.AscendLaws.{order_ascends}
use Rattle.elf_walk.proofs.MemberLaws.{stays}
use Rattle.elf_walk.proofs.OrderLaws.{put_less, put_equal, put_greater}
use Rattle.elf_walk.proofs.SortedLaws.{all_more}

total : IsTotalOrder (slice_cmp nat_cmp)
total = nat_list_cmp_total

back_of_less : (x y : List ℕ) → order x y ≡ Less → order y x ≡ Greater
back_of_less x y less = total.antisymm y x ∙ ap ordering_reverse less

back_of_greater : (x y : List ℕ) → order x y ≡ Greater → order y x ≡ Less
back_of_greater x y greater = total.antisymm y x ∙ ap ordering_reverse greater

-- THE NAMES AFTER ONE, WITH ONE MORE

one_filtered : (low name : List ℕ) (names : List (List ℕ)) → names_following low (names ++ name ∷ []) ≡ names_following low names ++ cond (is_gt (order name low)) (name ∷ []) []
one_filtered low name [] = refl
one_filtered low name (x ∷ xs) = by (is_gt (order x low)) (one_filtered low name xs)
  where
    by : (b : Bool) → names_following low (xs ++ name ∷ []) ≡ names_following low xs ++ cond (is_gt (order name low)) (name ∷ []) []
        → cond b (x ∷ names_following low (xs ++ name ∷ [])) (names_following low (xs ++ name ∷ [])) ≡ cond b (x ∷ names_following low xs) (names_following low xs) ++ cond (is_gt (order name low)) (name ∷ []) []
    by true ih = ap (λ l. x ∷ l) ih
    by false ih = ih

nothing_more : (names : List (List ℕ)) → names ++ [] ≡ names
nothing_more [] = refl
nothing_more (x ∷ xs) = ap (λ l. x ∷ l) (nothing_more xs)

pub not_behind : (low name : List ℕ) (names : List (List ℕ)) → is_gt (order name low) ≡ false → in_order (names_following low (names ++ name ∷ [])) ≡ in_order (names_following low names)
not_behind low name names is =
    ap in_order (one_filtered low name names ∙ ap (λ b. names_following low names ++ cond b (name ∷ []) []) is ∙ nothing_more (names_following low names))

pub one_after : (low name : List ℕ) (names : List (List ℕ)) → is_gt (order name low) ≡ true
    → in_order (names_following low (names ++ name ∷ [])) ≡ insert_by (λ n. n) name (in_order (names_following low names))
one_after low name names is =
    ap in_order (one_filtered low name names ∙ ap (λ b. names_following low names ++ cond b (name ∷ []) []) is) ∙ all_more (names_following low names) name []

-- A NAME IS INSERTED

put_within : (name limit : List ℕ) (front rest : List (List ℕ)) → order name limit ≡ Less
    → insert_by (λ n. n) name (front ++ limit ∷ rest) ≡ insert_by (λ n. n) name front ++ limit ∷ rest
unfolding insert_by
put_within name limit [] rest less = put_less (λ n. n) name limit rest less
put_within name limit (x ∷ xs) rest less = by (order name x) (put_within name limit xs rest less)
  where
    by : (o : Ordering) → insert_by (λ n. n) name (xs ++ limit ∷ rest) ≡ insert_by (λ n. n) name xs ++ limit ∷ rest
        → elim o as (λ _. List (List ℕ)) [ Less ↦ name ∷ x ∷ (xs ++ limit ∷ rest) | Equal ↦ x ∷ (xs ++ limit ∷ rest) | Greater ↦ x ∷ insert_by (λ n. n) name (xs ++ limit ∷ rest) ]
        ≡ elim o as (λ _. List (List ℕ)) [ Less ↦ name ∷ x ∷ xs | Equal ↦ x ∷ xs | Greater ↦ x ∷ insert_by (λ n. n) name xs ] ++ limit ∷ rest
    by Less ih = refl
    by Equal ih = refl
    by Greater ih = ap (λ l. x ∷ l) ih

before_limit : (x limit : List ℕ) (xs rest : List (List ℕ)) → AreAfter x (xs ++ limit ∷ rest) → order x limit ≡ Less
before_limit x limit [] rest are = are.0
before_limit x limit (y ∷ ys) rest are = before_limit x limit ys rest are.1

above : (x name limit : List ℕ) → order x limit ≡ Less → (o : Ordering) → o ≡ order name limit → is_lt o ≡ false → order name x ≡ Greater
above x name limit low Less is high = absurd (both_ways true high refl)
above x name limit low Equal is high = total.congr name limit x (sym is) ∙ back_of_less x limit low
above x name limit low Greater is high = back_of_less x name (total.trans x limit name low (back_of_greater name limit (sym is)))

passes_front : (name limit : List ℕ) (front rest : List (List ℕ)) → Ascends (front ++ limit ∷ rest) → is_lt (order name limit) ≡ false
    → insert_by (λ n. n) name (front ++ limit ∷ rest) ≡ front ++ insert_by (λ n. n) name (limit ∷ rest)
passes_front name limit [] rest up high = refl
passes_front name limit (x ∷ xs) rest up high =
    put_greater (λ n. n) name x (xs ++ limit ∷ rest) (above x name limit (before_limit x limit xs rest up.0) (order name limit) refl high)
    ∙ ap (λ l. x ∷ l) (passes_front name limit xs rest up.1 high)

still_cut : (limit : List ℕ) (front kept all : List (List ℕ)) (name next : List ℕ) (rest : List (List ℕ)) → kept ≡ front ++ limit ∷ []
    → all ≡ front ++ limit ∷ insert_by (λ n. n) name (next ∷ rest) → IsCutFront limit kept all
unfolding insert_by
still_cut limit front kept all name next rest are is = by (order name next) is
  where
    by : (o : Ordering)
        → all ≡ front ++ limit ∷ elim o as (λ _. List (List ℕ)) [ Less ↦ name ∷ next ∷ rest | Equal ↦ next ∷ rest | Greater ↦ next ∷ insert_by (λ n. n) name rest ]
        → IsCutFront limit kept all
    by Less e = record { front = front; next = name; rest = next ∷ rest; kept_is = are; all_is = e }
    by Equal e = record { front = front; next = next; rest = rest; kept_is = are; all_is = e }
    by Greater e = record { front = front; next = next; rest = insert_by (λ n. n) name rest; kept_is = are; all_is = e }

behind_limit : (name limit : List ℕ) (kept all : List (List ℕ)) → Ascends all → IsCutFront limit kept all
    → (o : Ordering) → o ≡ order name limit → is_lt o ≡ false → IsCutFront limit kept (insert_by (λ n. n) name all)
behind_limit name limit kept all up cut Less is high = absurd (both_ways true high refl)
behind_limit name limit kept all up cut Equal is high =
    let passed = passes_front name limit cut.front (cut.next ∷ cut.rest) (subst Ascends cut.all_is up) (rw (sym is) refl) in
    let same : insert_by (λ n. n) name all ≡ cut.front ++ limit ∷ cut.next ∷ cut.rest =
    ap (λ l. insert_by (λ n. n) name l) cut.all_is ∙ passed ∙ ap (λ l. cut.front ++ l) (put_equal (λ n. n) name limit (cut.next ∷ cut.rest) (sym is)) in
    record { front = cut.front; next = cut.next; rest = cut.rest; kept_is = cut.kept_is; all_is = same }
behind_limit name limit kept all up cut Greater is high =
    let passed = passes_front name limit cut.front (cut.next ∷ cut.rest) (subst Ascends cut.all_is up) (rw (sym is) refl) in
    still_cut limit cut.front kept (insert_by (λ n. n) name all) name cut.next cut.rest cut.kept_is
    (ap (λ l. insert_by (λ n. n) name l) cut.all_is ∙ passed ∙ ap (λ l. cut.front ++ l) (put_greater (λ n. n) name limit (cut.next ∷ cut.rest) (sym is)))

-- a name that is not wanted changes nothing
pub front_unwanted : (name limit : List ℕ) (kept all : List (List ℕ)) (more : Bool) → Ascends all
    → (not more || is_lt (order name limit)) ≡ false → IsFront limit more kept all → IsFront limit more kept (insert_by (λ n. n) name all)
front_unwanted name limit kept all false up is front = absurd (both_ways true is refl)
front_unwanted name limit kept all true up is front = behind_limit name limit kept all up front (order name limit) refl is

lt_by : (o : Ordering) → is_lt o ≡ true → o ≡ Less
lt_by Less is = refl
lt_by Equal is = absurd (both_ways false refl is)
lt_by Greater is = absurd (both_ways false refl is)

-- a name that is wanted is inserted among those that are kept
pub front_wanted : (name limit : List ℕ) (kept all : List (List ℕ)) (more : Bool) → (not more || is_lt (order name limit)) ≡ true
    → IsFront limit more kept all → IsFront limit more (insert_by (λ n. n) name kept) (insert_by (λ n. n) name all)
front_wanted name limit kept all false is front = ap (λ l. insert_by (λ n. n) name l) front
front_wanted name limit kept all true is front =
    let less = lt_by (order name limit) is in
    record {
      front = insert_by (λ n. n) name front.front;
      next = front.next;
      rest = front.rest;
      kept_is = ap (λ l. insert_by (λ n. n) name l) front.kept_is ∙ put_within name limit front.front [] less;
      all_is = ap (λ l. insert_by (λ n. n) name l) front.all_is ∙ put_within name limit front.front (front.next ∷ front.rest) less;
    }

-- THE LAST ARE DROPPED

parted : (names : List (List ℕ)) (k : ℕ) (d : List ℕ) → suc k < length names
    → names ≡ take k names ++ get_or names k d ∷ get_or names (suc k) d ∷ drop (suc (suc k)) names
parted [] k d within = absurd (omega arith)
parted (x ∷ []) zero d within = absurd (omega arith)
parted (x ∷ y ∷ ys) zero d within = refl
parted (x ∷ xs) (suc k) d within = ap (λ l. x ∷ l) (parted xs k d (omega arith))

taken : (names : List (List ℕ)) (k : ℕ) (d : List ℕ) → k < length names → take (suc k) names ≡ take k names ++ get_or names k d ∷ []
taken [] k d within = absurd (omega arith)
taken (x ∷ xs) zero d within = refl
taken (x ∷ xs) (suc k) d within = ap (λ l. x ∷ l) (taken xs k d (omega arith))

cut_of : (names all rest : List (List ℕ)) (k : ℕ) (d : List ℕ) → suc k < length names → all ≡ names ++ rest → IsCutFront (get_or names k d) (take (suc k) names) all
cut_of names all rest k d within is = record {
  front = take k names;
  next = get_or names (suc k) d;
  rest = drop (suc (suc k)) names ++ rest;
  kept_is = taken names k d (omega arith);
  all_is = is ∙ ap (λ l. l ++ rest) (parted names k d within) ∙ append_assoc (take k names) (get_or names k d ∷ get_or names (suc k) d ∷ drop (suc (suc k)) names) rest;
}

pub front_cut : (names all : List (List ℕ)) (limit : List ℕ) (more : Bool) (k : ℕ) (d : List ℕ) → suc k < length names → IsFront limit more names all
    → IsCutFront (get_or names k d) (take (suc k) names) all
front_cut names all limit false k d within front = cut_of names all [] k d within (sym front ∙ sym (nothing_more names))
front_cut names all limit true k d within front =
    cut_of names all (front.next ∷ front.rest) k d within
    (front.all_is ∙ sym (append_assoc front.front (limit ∷ []) (front.next ∷ front.rest)) ∙ ap (λ l. l ++ front.next ∷ front.rest) (sym front.kept_is))

-- WHAT IS KEPT

pub keeps_unwanted : (names : List (List ℕ)) (name low limit : List ℕ) (kept : List (List ℕ)) (more : Bool) (b : Bool) → b ≡ is_gt (order name low)
    → (b && (not more || is_lt (order name limit))) ≡ false
    → IsFront limit more kept (in_order (names_following low names)) → IsFront limit more kept (in_order (names_following low (names ++ name ∷ [])))
keeps_unwanted names name low limit kept more true gt is front =
    subst (λ l. IsFront limit more kept l) (sym (one_after low name names (sym gt)))
    (front_unwanted name limit kept (in_order (names_following low names)) more (order_ascends (names_following low names) [] tt) is front)
keeps_unwanted names name low limit kept more false gt is front =
    subst (λ l. IsFront limit more kept l) (sym (not_behind low name names (sym gt))) front

pub keeps_wanted : (names : List (List ℕ)) (name low limit : List ℕ) (kept : List (List ℕ)) (more : Bool) (b : Bool) → b ≡ is_gt (order name low)
    → (b && (not more || is_lt (order name limit))) ≡ true
    → IsFront limit more kept (in_order (names_following low names)) → IsFront limit more (insert_by (λ n. n) name kept) (in_order (names_following low (names ++ name ∷ [])))
keeps_wanted names name low limit kept more true gt is front =
    subst (λ l. IsFront limit more (insert_by (λ n. n) name kept) l) (sym (one_after low name names (sym gt)))
    (front_wanted name limit kept (in_order (names_following low names)) more is front)
keeps_wanted names name low limit kept more false gt is front = absurd (both_ways false refl is)

-- NAMES ARE SORTED, AND THE LAST ARE DROPPED

behind_taken : (first : List ℕ) (n : ℕ) (names : List (List ℕ)) → AreAfter first names → AreAfter first (take n names)
behind_taken first zero names are = tt
behind_taken first (suc n) [] are = tt
behind_taken first (suc n) (x ∷ xs) are = (are.0, behind_taken first n xs are.1)

taken_ascends : (n : ℕ) (names : List (List ℕ)) → Ascends names → Ascends (take n names)
taken_ascends zero names up = tt
taken_ascends (suc n) [] up = tt
taken_ascends (suc n) (x ∷ xs) up = (behind_taken x n xs up.0, taken_ascends n xs up.1)

at_taken : (n k : ℕ) (names : List (List ℕ)) (d : List ℕ) → k < n → get_or (take n names) k d ≡ get_or names k d
at_taken zero k names d within = absurd (omega arith)
at_taken (suc n) k [] d within = refl
at_taken (suc n) zero (x ∷ xs) d within = refl
at_taken (suc n) (suc k) (x ∷ xs) d within = at_taken n k xs d (omega arith)

-- those of some sorted names are sorted
pub taken_stays : (names spare new : List (List ℕ)) → spare ≡ in_order names → new ≡ take (length new) spare → in_order new ≡ new
taken_stays names spare new is front =
    let up : Ascends new = subst Ascends (sym (front ∙ ap (λ l. take (length new) l) is)) (taken_ascends (length new) (in_order names) (order_ascends names [] tt)) in
    stays new up

pub whole_stays : (names spare new : List (List ℕ)) → spare ≡ in_order names → new ≡ spare → in_order new ≡ new
whole_stays names spare new is whole =
    let up : Ascends new = subst Ascends (sym (whole ∙ is)) (order_ascends names [] tt) in
    stays new up

pub whole_front : (names spare new all : List (List ℕ)) (limit : List ℕ) (more : Bool) → spare ≡ in_order names → new ≡ spare
    → IsFront limit more (in_order names) all → IsFront limit more (in_order new) all
whole_front names spare new all limit more is whole front =
    subst (λ l. IsFront limit more l all) (sym (whole_stays names spare new is whole ∙ whole ∙ is)) front

pub cut_front : (names spare new all : List (List ℕ)) (limit last : List ℕ) (more : Bool) → spare ≡ in_order names
    → new ≡ take (length new) spare → 0 < length new → length new < length spare → ((most : ℕ) → length new ≡ suc most → last ≡ get_or new most [])
    → IsFront limit more (in_order names) all → IsCutFront last (in_order new) all
cut_front names spare new all limit last more is front some fewer ends before = by (length new) refl
  where
    by : (n : ℕ) → n ≡ length new → IsCutFront last (in_order new) all
    by zero e = absurd (omega arith)
    by (suc k) e =
        let new_is : new ≡ take (suc k) (in_order names) = front ∙ ap (λ l. take (length new) l) is ∙ ap (λ n. take n (in_order names)) (sym e) in
        let within : suc k < length (in_order names) = subst (λ l. suc k < length l) is (omega arith) in
        let last_is : last ≡ get_or (in_order names) k [] = ends k (sym e) ∙ ap (λ l. get_or l k []) new_is ∙ at_taken (suc k) k (in_order names) [] (omega arith) in
        let kept_is : in_order new ≡ take (suc k) (in_order names) = taken_stays names spare new is front ∙ new_is in
        let cut = front_cut (in_order names) all limit more k [] within before in
        rw (last_is, kept_is) cut
