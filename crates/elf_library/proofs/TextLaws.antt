-- Texts that are stored in bytes, with more bytes after them.
use Rattle.std.proofs.Common.{◌≡◌, ℕ, ◌+◌, ◌≤◌, List, [], ◌∷◌, ◌++◌, length, take, drop, map, refl, ap, ◌∙◌, arith}
use Rattle.std.proofs.Math.Seq.{drop-append_seam}
use Rattle.std.proofs.lemmas.List.{drop-append-le, length-drop, map-append, take-append-le, take_all}
use Rattle.std.proofs.lemmas.List.Elements.{All-head, All-tail}
use Rattle.std.specs.Prelude.{All}
use Rattle.elf_library.specs.Held.{HeldTexts}
use Rattle.elf_model.specs.Bytes.{slice}

piece_of : (start len : ℕ) (xs ys : List ℕ) → start + len ≤ length xs → slice (xs ++ ys) start len ≡ slice xs start len
piece_of start len xs ys within =
    ap (λ l. take len l) (drop-append-le start xs ys (omega arith)) ∙ take-append-le len (drop start xs) ys (omega (arith, length-drop start xs))

last_piece : (xs ys : List ℕ) → slice (xs ++ ys) (length xs) (length ys) ≡ ys
last_piece xs ys = ap (λ l. take (length ys) l) (drop-append_seam xs ys) ∙ take_all (length ys) ys (omega arith)

module _ {X : Type 0} (start len : X → ℕ) where
  pieces_of : (ps : List X) (xs ys : List ℕ) → All (λ p. start p + len p ≤ length xs) ps
      → map (λ p. slice (xs ++ ys) (start p) (len p)) ps ≡ map (λ p. slice xs (start p) (len p)) ps
  pieces_of [] xs ys all = refl
  pieces_of (p ∷ ps) xs ys all =
      ap (λ l. l ∷ map (λ q. slice (xs ++ ys) (start q) (len q)) ps) (piece_of (start p) (len p) xs ys (All-head (λ q. start q + len q ≤ length xs) p ps all))
      ∙ ap (λ l. slice xs (start p) (len p) ∷ l) (pieces_of ps xs ys (All-tail (λ q. start q + len q ≤ length xs) p ps all))

  -- bytes with a text after them hold one more text
  pub one_more : (ps : List X) (p : X) (xs ys : List ℕ) → All (λ q. start q + len q ≤ length xs) ps → start p ≡ length xs → len p ≡ length ys
      → map (λ q. slice (xs ++ ys) (start q) (len q)) (ps ++ p ∷ []) ≡ map (λ q. slice xs (start q) (len q)) ps ++ ys ∷ []
  one_more ps p xs ys all begins ends =
      map-append (λ q. slice (xs ++ ys) (start q) (len q)) ps (p ∷ [])
      ∙ ap (λ l. l ++ slice (xs ++ ys) (start p) (len p) ∷ []) (pieces_of ps xs ys all)
      ∙ ap (λ l. map (λ q. slice xs (start q) (len q)) ps ++ l ∷ []) (ap (λ n. slice (xs ++ ys) n (len p)) begins ∙ ap (λ n. slice (xs ++ ys) (length xs) n) ends ∙ last_piece xs ys)

-- texts that are stored, in other words
abbrev pub held_of : List (List ℕ) → (bytes texts : ℕ) → HeldTexts
held_of texts bytes count = record { texts = texts; room = record { bytes = bytes; texts = count } }

pub held_as : {texts others : List (List ℕ)} {a b n m : ℕ} → texts ≡ others → a ≡ b → n ≡ m → held_of texts a n ≡ held_of others b m
held_as texts bytes count = rw (texts, bytes, count) refl
