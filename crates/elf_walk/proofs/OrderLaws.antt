-- Where a member belongs among others, found by iterating over them; and keeping the first few at
-- each step keeps the first few of all.
use Rattle.std.proofs.Common.{◌≡◌, ℕ, zero, suc, ◌+◌, ◌≤◌, ◌<◌, List, [], ◌∷◌, ◌++◌, length, take, drop, get_or, refl, ap, sym, ◌∙◌, add-one, append_assoc, arith, subst}
use Rattle.std.proofs.Math.Seq.{drop-cons, take-suc}
use Rattle.std.specs.declared.cmp.Ordering.{Ordering}
use Rattle.std.specs.declared.cmp.Ordering.TheVariants.{Less, Equal, Greater}
use Rattle.elf_walk.specs.Order.{order, insert_by}

module _ {X : Type 0} (name : X → List ℕ) (x : X) where
  pub put_less : (first : X) (rest : List X) → order (name x) (name first) ≡ Less → insert_by name x (first ∷ rest) ≡ x ∷ first ∷ rest
  unfolding insert_by
  put_less first rest is = rw (is, insert_by) refl

  pub put_equal : (first : X) (rest : List X) → order (name x) (name first) ≡ Equal → insert_by name x (first ∷ rest) ≡ first ∷ rest
  unfolding insert_by
  put_equal first rest is = rw (is, insert_by) refl

  pub put_greater : (first : X) (rest : List X) → order (name x) (name first) ≡ Greater → insert_by name x (first ∷ rest) ≡ first ∷ insert_by name x rest
  unfolding insert_by
  put_greater first rest is = rw (is, insert_by) refl

  -- if nothing was skipped yet
  pub put_start : (xs : List X) → insert_by name x xs ≡ take 0 xs ++ insert_by name x (drop 0 xs)
  put_start xs = refl

  -- a member that is smaller is skipped
  pub put_step : (xs : List X) (i : ℕ) (kept : X) → i < length xs → kept ≡ get_or xs i kept → order (name x) (name kept) ≡ Greater
      → insert_by name x xs ≡ take i xs ++ insert_by name x (drop i xs) → insert_by name x xs ≡ take (i + 1) xs ++ insert_by name x (drop (i + 1) xs)
  put_step xs i kept within is greater so_far =
      let front : take (suc i) xs ≡ take i xs ++ (kept ∷ []) = take-suc xs i kept within ∙ ap (λ k. take i xs ++ (k ∷ [])) (sym is) in
      let back : drop i xs ≡ kept ∷ drop (suc i) xs = drop-cons xs i kept within ∙ ap (λ k. k ∷ drop (suc i) xs) (sym is) in
      let rest = put_greater kept (drop (suc i) xs) greater in
      rw (add-one, front, append_assoc) (so_far ∙ ap (λ l. take i xs ++ insert_by name x l) back ∙ ap (λ l. take i xs ++ l) rest)

  -- it is inserted before a larger one
  pub put_here : (xs : List X) (i : ℕ) (kept : X) → i < length xs → kept ≡ get_or xs i kept → order (name x) (name kept) ≡ Less
      → insert_by name x xs ≡ take i xs ++ insert_by name x (drop i xs) → insert_by name x xs ≡ take i xs ++ x ∷ drop i xs
  put_here xs i kept within is less so_far =
      let back : drop i xs ≡ kept ∷ drop (suc i) xs = drop-cons xs i kept within ∙ ap (λ k. k ∷ drop (suc i) xs) (sym is) in
      so_far ∙ ap (λ l. take i xs ++ insert_by name x l) back ∙ ap (λ l. take i xs ++ l) (put_less kept (drop (suc i) xs) less)
      ∙ ap (λ l. take i xs ++ x ∷ l) (sym back)

  -- it is there already
  pub put_there : (xs : List X) (i : ℕ) (kept : X) → i < length xs → kept ≡ get_or xs i kept → order (name x) (name kept) ≡ Equal
      → insert_by name x xs ≡ take i xs ++ insert_by name x (drop i xs) → insert_by name x xs ≡ xs
  put_there xs i kept within is equal so_far =
      let back : drop i xs ≡ kept ∷ drop (suc i) xs = drop-cons xs i kept within ∙ ap (λ k. k ∷ drop (suc i) xs) (sym is) in
      so_far ∙ ap (λ l. take i xs ++ insert_by name x l) back ∙ ap (λ l. take i xs ++ l) (put_equal kept (drop (suc i) xs) equal)
      ∙ ap (λ l. take i xs ++ l) (sym back) ∙ whole xs i
    where
      whole : (ys : List X) (n : ℕ) → take n ys ++ drop n ys ≡ ys
      whole ys zero = refl
      whole [] (suc n) = refl
      whole (y ∷ ys) (suc n) = ap (λ l. y ∷ l) (whole ys n)

  none_behind : (ys : List X) (m : ℕ) → m ≡ length ys → drop m ys ≡ []
  none_behind [] zero e = refl
  none_behind [] (suc m) e = refl
  none_behind (y ∷ ys) zero e = absurd (omega arith)
  none_behind (y ∷ ys) (suc m) e = none_behind ys m (omega arith)

  -- all are smaller
  pub put_last : (xs : List X) (n : ℕ) → n ≡ length xs → insert_by name x xs ≡ take n xs ++ insert_by name x (drop n xs)
      → insert_by name x xs ≡ take (length xs) xs ++ x ∷ drop (length xs) xs
  unfolding insert_by
  put_last xs n is so_far =
      let end = none_behind xs n is in
      subst (λ (m : ℕ). insert_by name x xs ≡ take m xs ++ x ∷ drop m xs) is
      (so_far ∙ ap (λ l. take n xs ++ insert_by name x l) end ∙ ap (λ l. take n xs ++ x ∷ l) (sym end))

  take_take : (n : ℕ) (xs : List X) → take n (take n xs) ≡ take n xs
  take_take zero xs = refl
  take_take (suc n) [] = refl
  take_take (suc n) (y ∷ ys) = ap (λ l. y ∷ l) (take_take n ys)

  take_shorter : (n : ℕ) (y : X) (xs : List X) → take n (y ∷ take n xs) ≡ take n (y ∷ xs)
  take_shorter zero y xs = refl
  take_shorter (suc n) y [] = refl
  take_shorter (suc n) y (z ∷ zs) = ap (λ l. y ∷ l) (take_shorter n z zs)

  by_order : (n : ℕ) (first : X) (rest : List X) (o : Ordering) → take n (insert_by name x (take n rest)) ≡ take n (insert_by name x rest)
      → take (suc n) (elim o as (λ _. List X) [ Less ↦ x ∷ first ∷ take n rest | Equal ↦ first ∷ take n rest | Greater ↦ first ∷ insert_by name x (take n rest) ])
      ≡ take (suc n) (elim o as (λ _. List X) [ Less ↦ x ∷ first ∷ rest | Equal ↦ first ∷ rest | Greater ↦ first ∷ insert_by name x rest ])
  by_order n first rest Less ih = ap (λ l. x ∷ l) (take_shorter n first rest)
  by_order n first rest Equal ih = ap (λ l. first ∷ l) (take_take n rest)
  by_order n first rest Greater ih = ap (λ l. first ∷ l) ih

  -- what is dropped after the first n members is not missed when another is inserted
  pub put_first : (n : ℕ) (xs : List X) → take n (insert_by name x (take n xs)) ≡ take n (insert_by name x xs)
  unfolding insert_by
  put_first zero xs = refl
  put_first (suc n) [] = refl
  put_first (suc n) (first ∷ rest) = by_order n first rest (order (name x) (name first)) (put_first n rest)

  -- inserting a member loses none
  grown : (first : X) (rest : List X) (o : Ordering) → length rest ≤ length (insert_by name x rest)
      → suc (length rest) ≤ length (elim o as (λ _. List X) [ Less ↦ x ∷ first ∷ rest | Equal ↦ first ∷ rest | Greater ↦ first ∷ insert_by name x rest ])
  grown first rest Less ih = omega arith
  grown first rest Equal ih = omega arith
  grown first rest Greater ih = omega arith

  pub put_grows : (xs : List X) → length xs ≤ length (insert_by name x xs)
  unfolding insert_by
  put_grows [] = omega arith
  put_grows (first ∷ rest) = grown first rest (order (name x) (name first)) (put_grows rest)

  pub take_all : (n : ℕ) (xs : List X) → length xs ≤ n → take n xs ≡ xs
  take_all zero [] few = refl
  take_all zero (y ∷ ys) few = absurd (omega arith)
  take_all (suc n) [] few = refl
  take_all (suc n) (y ∷ ys) few = ap (λ l. y ∷ l) (take_all n ys (omega arith))

  front_alone : (n at : ℕ) (xs : List X) → n ≤ at → at ≤ length xs → length xs ≤ n → take n (take at xs ++ x ∷ drop at xs) ≡ xs
  front_alone zero at [] low within few = refl
  front_alone zero at (y ∷ ys) low within few = absurd (omega arith)
  front_alone (suc n) zero xs low within few = absurd (omega arith)
  front_alone (suc n) (suc at) [] low within few = absurd (omega arith)
  front_alone (suc n) (suc at) (y ∷ ys) low within few = ap (λ l. y ∷ l) (front_alone n at ys (omega arith) (omega arith) (omega arith))

  inserted : (n at : ℕ) (xs : List X) → at ≤ n → take (suc n) (take at xs ++ x ∷ drop at xs) ≡ take at (take n xs) ++ x ∷ drop at (take n xs)
  inserted n zero xs low = refl
  inserted zero (suc at) xs low = absurd (omega arith)
  inserted (suc n) (suc at) [] low = refl
  inserted (suc n) (suc at) (y ∷ ys) low = ap (λ l. y ∷ l) (inserted n at ys (omega arith))

  -- what is kept if nothing is inserted
  pub kept_same : (n : ℕ) (xs : List X) → length xs ≤ n → insert_by name x xs ≡ xs → xs ≡ take n (insert_by name x xs)
  kept_same n xs few is = sym (ap (take n) is ∙ take_all n xs few)

  -- what is kept if the place is after all that are kept
  pub kept_front : (n at : ℕ) (xs : List X) → length xs ≤ n → n ≤ at → at ≤ length xs → insert_by name x xs ≡ take at xs ++ x ∷ drop at xs
      → xs ≡ take n (insert_by name x xs)
  kept_front n at xs few low within is = sym (ap (take n) is ∙ front_alone n at xs low within few)

  -- what is kept if it is inserted
  pub kept_put : (n at : ℕ) (xs : List X) → at ≤ n → insert_by name x xs ≡ take at xs ++ x ∷ drop at xs
      → take at (take n xs) ++ x ∷ drop at (take n xs) ≡ take (suc n) (insert_by name x xs)
  kept_put n at xs low is = sym (ap (take (suc n)) is ∙ inserted n at xs low)

pub nothing_taken : {X : Type 0} (n : ℕ) (xs : List X) → xs ≡ [] → take n xs ≡ xs
nothing_taken zero [] e = refl
nothing_taken zero (x ∷ xs) e = cc
nothing_taken (suc n) [] e = refl
nothing_taken (suc n) (x ∷ xs) e = cc
