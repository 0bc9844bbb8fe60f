-- Names that are held in bytes, with more bytes after them, and in another order.
use Rattle.std.proofs.Common.{◌≡◌, ℕ, ◌+◌, ◌≤◌, ◌<◌, Bool, List, [], ◌∷◌, ◌++◌, length, take, drop, map, get_or, refl, ap, sym, ◌∙◌, subst, arith}
use Rattle.std.proofs.Math.Seq.{drop-append_seam}
use Rattle.std.proofs.lemmas.List.{drop-append-le, get_or-map, length-drop, length-map, length-take, map-append, take-append-le, take_all}
use Rattle.std.proofs.lemmas.List.Elements.{All-head, All-tail}
use Rattle.std.specs.Prelude.{All}
use Rattle.std.specs.Fn.{AlwaysReturns, Called, ReturnsEach}
use Rattle.std.specs.List.Sorted.{IsSortedBy}
use denote.Param.Members.{Mut}
use Rattle.elf_model.specs.Bytes.{slice}

piece_of : (start len : ℕ) (xs ys : List ℕ) → start + len ≤ length xs → slice (xs ++ ys) start len ≡ slice xs start len
piece_of start len xs ys within =
    ap (λ l. take len l) (drop-append-le start xs ys (omega arith)) ∙ take-append-le len (drop start xs) ys (omega (arith, length-drop start xs))

last_piece : (xs ys : List ℕ) → slice (xs ++ ys) (length xs) (length ys) ≡ ys
last_piece xs ys = ap (λ l. take (length ys) l) (drop-append_seam xs ys) ∙ take_all (length ys) ys (omega arith)

pub short_taken : (n : ℕ) (ys : List ℕ) → length (take n ys) ≤ n
short_taken n ys = let is = length-take n ys in omega (arith, is)

module _ {X : Type 0} (start len : X → ℕ) where
  pieces_of : (ps : List X) (xs ys : List ℕ) → All (λ p. start p + len p ≤ length xs) ps
      → map (λ p. slice (xs ++ ys) (start p) (len p)) ps ≡ map (λ p. slice xs (start p) (len p)) ps
  pieces_of [] xs ys all = refl
  pieces_of (p ∷ ps) xs ys all =
      ap (λ l. l ∷ map (λ q. slice (xs ++ ys) (start q) (len q)) ps) (piece_of (start p) (len p) xs ys (All-head (λ q. start q + len q ≤ length xs) p ps all))
      ∙ ap (λ l. slice xs (start p) (len p) ∷ l) (pieces_of ps xs ys (All-tail (λ q. start q + len q ≤ length xs) p ps all))

  -- bytes with a name after them hold one name more
  pub one_more : (ps : List X) (p : X) (xs ys : List ℕ) → All (λ q. start q + len q ≤ length xs) ps → start p ≡ length xs → len p ≡ length ys
      → map (λ q. slice (xs ++ ys) (start q) (len q)) (ps ++ p ∷ []) ≡ map (λ q. slice xs (start q) (len q)) ps ++ ys ∷ []
  one_more ps p xs ys all begins ends =
      map-append (λ q. slice (xs ++ ys) (start q) (len q)) ps (p ∷ [])
      ∙ ap (λ l. l ++ slice (xs ++ ys) (start p) (len p) ∷ []) (pieces_of ps xs ys all)
      ∙ ap (λ l. map (λ q. slice xs (start q) (len q)) ps ++ l ∷ []) (ap (λ n. slice (xs ++ ys) n (len p)) begins ∙ ap (λ n. slice (xs ++ ys) (length xs) n) ends ∙ last_piece xs ys)

module _ {X Y : Type 0} (key : X → Y) where
  -- members sorted by their keys have sorted keys
  pub sorted_mapped : (lt : Y → Y → Bool) (xs : List X) → IsSortedBy (λ a b. lt (key a) (key b)) xs → IsSortedBy lt (map key xs)
  sorted_mapped lt [] sorted = λ k d low within. absurd (omega arith)
  sorted_mapped lt (x ∷ xs) sorted = λ k d low within.
      let inside : k + 1 < length (x ∷ xs) = omega (arith, length-map (x ∷ xs) key) in
      ap (λ y. lt y (get_or (map key (x ∷ xs)) k d)) (get_or-map key (x ∷ xs) (k + 1) x d inside)
      ∙ ap (λ y. lt (key (get_or (x ∷ xs) (k + 1) x)) y) (get_or-map key (x ∷ xs) k x d (omega arith))
      ∙ sorted k x low inside

module _ {F A R : Type 0} (g : Mut F A R) (P : A → R → Type 0) (f : F) (one : (a : A) (r : R) (f' : F) → Called g f a r f' → P a r × (f' ≡ f)) where
  each : (xs : List A) → ReturnsEach g P f xs
  each [] = tt
  each (a ∷ xs) = λ r f' called. let now = one a r f' called in (now.0, subst (λ k. ReturnsEach g P k xs) (sym now.1) (each xs))

  -- a closure that is unchanged returns each time what it returns once
  pub answers_so : AlwaysReturns g P f
  answers_so = record { at = each }
