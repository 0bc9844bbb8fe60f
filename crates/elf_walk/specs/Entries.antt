-- Entries that end in NUL, one after the other.
use Rattle.std.specs.Prelude.{ℕ, zero, suc, ◌≡◌, ◌≢◌, All, List, [], ◌∷◌, ◌++◌}

-- the entries that end in some bytes, of which the first begins with a prefix before these bytes
unfoldable pub whole_entries : List ℕ → List ℕ → List (List ℕ)
whole_entries front [] = []
whole_entries front (zero ∷ bytes) = front ∷ whole_entries [] bytes
whole_entries front (suc b ∷ bytes) = whole_entries (front ++ suc b ∷ []) bytes

-- what is left after the last NUL
unfoldable pub rest_from : List ℕ → List ℕ → List ℕ
rest_from front [] = front
rest_from front (zero ∷ bytes) = rest_from [] bytes
rest_from front (suc b ∷ bytes) = rest_from (front ++ suc b ∷ []) bytes

-- the last entry, which ends with the bytes, if any are left
abbrev pub last_entry : List ℕ → List (List ℕ)
last_entry [] = []
last_entry (b ∷ rest) = (b ∷ rest) ∷ []

-- ALL ENTRIES of some bytes
abbrev pub list_entries : List ℕ → List (List ℕ)
list_entries bytes = whole_entries [] bytes ++ last_entry (rest_from [] bytes)

-- an entry that ends in NUL is an entry, whichever entries are after it
abbrev pub EntryIsFound : Type 0
EntryIsFound =
    (entry rest : List ℕ) → All (λ b. b ≢ 0) entry → list_entries (entry ++ 0 ∷ rest) ≡ entry ∷ list_entries rest

-- bytes without NUL are one entry, if there are any
abbrev pub LastIsFound : Type 0
LastIsFound = (entry : List ℕ) → All (λ b. b ≢ 0) entry → list_entries entry ≡ last_entry entry
