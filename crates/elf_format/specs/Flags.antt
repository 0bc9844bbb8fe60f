-- The words of flags, as the code stores them.
use Rattle.std.specs.Prelude.{ℕ, ◌&&◌, nat_le, Bool, true, List, [], ◌∷◌, length, map}
use Rattle.std.specs.Borrow.{Bor}

-- the words of a table
abbrev pub texts : List (Bor (List ℕ)) → List (List ℕ)
texts words = map (λ word. word.now) words

-- the words of a table have at most a given number of bytes
abbrev pub are_short_words : ℕ → List (List ℕ) → Bool
are_short_words most [] = true
are_short_words most (word ∷ words) = nat_le (length word) most && are_short_words most words
