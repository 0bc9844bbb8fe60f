-- Tables of names, as the code stores them.
use Rattle.std.specs.Prelude.{ℕ, ◌&&◌, nat_le, Bool, true, List, [], ◌∷◌, length, map}
use Rattle.std.specs.Borrow.{Bor}

-- the entries of a table: a number, and its name
abbrev pub entries : List (ℕ × Bor (List ℕ)) → List (ℕ × List ℕ)
entries table = map (λ entry. (entry.0, entry.1.now)) table

-- the names of a table have at most a given number of bytes
abbrev pub are_short : ℕ → List (ℕ × List ℕ) → Bool
are_short most [] = true
are_short most (entry ∷ names) = nat_le (length entry.1) most && are_short most names

-- the entries of a table of letters
abbrev pub letters : List (ℕ × ℕ) → List (ℕ × List ℕ)
letters table = map (λ entry. (entry.0, entry.1 ∷ [])) table
