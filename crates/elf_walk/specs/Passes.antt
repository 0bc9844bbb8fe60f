-- Passes over the names of a directory.
use Rattle.std.specs.Prelude.{ℕ, suc, ◌≡◌, ◌≤◌, ⊤, nat_lt, if◌then◌else◌, List, [], ◌∷◌, ◌++◌, take, length, filter, slice_index_or}
use Rattle.std.specs.Ordering.{is_gt}
use Rattle.std.specs.declared.cmp.Ordering.TheVariants.{Less}
use Rattle.elf_walk.specs.Order.{order, put_all_by}

-- names sorted by their bytes, without duplicates
abbrev pub in_order : List (List ℕ) → List (List ℕ)
in_order names = put_all_by (λ n. n) names []

-- those after a name
abbrev pub names_following : List ℕ → List (List ℕ) → List (List ℕ)
names_following after names = filter (λ n. is_gt (order n after)) names

-- each of the names is after another
abbrev pub AreAfter : List ℕ → List (List ℕ) → Type 0
AreAfter first [] = ⊤
AreAfter first (name ∷ names) = (order first name ≡ Less) × AreAfter first names

-- names that ascend: each is after all before it
abbrev pub Ascends : List (List ℕ) → Type 0
Ascends [] = ⊤
Ascends (name ∷ names) = AreAfter name names × Ascends names

-- sorted names ascend
abbrev pub OrderAscends : Type 0
OrderAscends = (names : List (List ℕ)) → Ascends (in_order names)

-- what passes over the names of a directory give, the first after a name, each other one after the
-- last name of the pass before it, as long as there are more; a pass keeps at least one of the
-- first names
unfoldable pub passes : List ℕ → List (List ℕ) → List ℕ → List (List ℕ)
passes [] names after = []
passes (most ∷ mosts) names after =
    let all = in_order (names_following after names) in
    take (suc most) all ++ (if nat_lt (suc most) (length all) then passes mosts names (slice_index_or all most after) else [])

-- ALL NAMES: however many each pass keeps, enough of them give all names of the directory after the
-- first one, sorted by their bytes, without duplicates
abbrev pub AllNames : Type 0
AllNames =
    (mosts : List ℕ) (names : List (List ℕ)) (after : List ℕ) → length (in_order (names_following after names)) ≤ length mosts
    → passes mosts names after ≡ in_order (names_following after names)
