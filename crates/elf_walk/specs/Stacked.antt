-- Pending names, each with its length after it.
use Rattle.std.specs.Prelude.{ℕ, List, [], ◌∷◌, ◌++◌, length}

-- a name pushed on others
abbrev pub pushed : List ℕ → List ℕ → List ℕ
pushed below name = below ++ name ++ length name ∷ []

-- names pushed on others, the first one last
unfoldable pub stacked : List (List ℕ) → List ℕ → List ℕ
stacked [] below = below
stacked (name ∷ names) below = pushed (stacked names below) name
