-- The pieces of a text.
use Rattle.std.specs.Prelude.{ℕ, ◌==◌, true, false, List, [], ◌∷◌}

-- one more byte at the start of the first of some pieces
abbrev pub onto_first : ℕ → List (List ℕ) → List (List ℕ)
onto_first byte [] = (byte ∷ []) ∷ []
onto_first byte (piece ∷ rest) = (byte ∷ piece) ∷ rest

-- the pieces of a text between which is a sign
unfoldable pub pieces_at : (sign : ℕ) → List ℕ → List (List ℕ)
pieces_at sign [] = [] ∷ []
pieces_at sign (byte ∷ bytes) =
    elim (byte == sign) [ true ↦ [] ∷ pieces_at sign bytes | false ↦ onto_first byte (pieces_at sign bytes) ]
