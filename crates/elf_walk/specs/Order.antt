-- Names sorted by their bytes.
use Rattle.std.specs.Prelude.{ℕ, List, [], ◌∷◌}
use Rattle.std.specs.Ordering.{nat_cmp}
use Rattle.std.specs.Cmp.Lexicographic.{slice_cmp}
use Rattle.std.specs.declared.cmp.Ordering.{Ordering}
use Rattle.std.specs.declared.cmp.Ordering.TheVariants.{Less, Equal, Greater}

-- how two names compare, byte by byte
abbrev pub order : List ℕ → List ℕ → Ordering
order a b = slice_cmp nat_cmp a b

-- a member inserted among others in the order of their names: before the first that is larger; if
-- one has its name already it is not inserted
unfoldable pub insert_by : {X : Type 0} → (X → List ℕ) → X → List X → List X
insert_by name x [] = x ∷ []
insert_by name x (first ∷ rest) = elim (order (name x) (name first)) [
  | Less ↦ x ∷ first ∷ rest
  | Equal ↦ first ∷ rest
  | Greater ↦ first ∷ insert_by name x rest
]

-- members inserted one after another
unfoldable pub put_all_by : {X : Type 0} → (X → List ℕ) → List X → List X → List X
put_all_by name [] kept = kept
put_all_by name (x ∷ xs) kept = put_all_by name xs (insert_by name x kept)
