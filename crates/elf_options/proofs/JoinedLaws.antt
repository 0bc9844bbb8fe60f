-- The order of a text against two pieces.
use Rattle.std.proofs.Common.{◌≡◌, ℕ, List, [], ◌∷◌, ◌++◌, length, take, drop, Ordering, Less, Equal, Greater, refl, nat_cmp}
use Rattle.std.specs.Cmp.Lexicographic.{slice_cmp}
use Rattle.std.specs.Ordering.{ordering_then}

-- a text against two pieces: its prefix against the first, then the rest against the second
pub compared_after : (text front behind : List ℕ)
    → slice_cmp nat_cmp text (front ++ behind) ≡ ordering_then (slice_cmp nat_cmp (take (length front) text) front) (slice_cmp nat_cmp (drop (length front) text) behind)
compared_after text [] behind = refl
compared_after [] (byte ∷ front) behind = refl
compared_after (first ∷ text) (byte ∷ front) behind = by (nat_cmp first byte) _ _ (compared_after text front behind)
  where
    by : (order : Ordering) {more : Ordering} (one two : Ordering) → more ≡ ordering_then one two → ordering_then order more ≡ ordering_then (ordering_then order one) two
    by Less one two is = refl
    by Equal one two is = is
    by Greater one two is = refl

-- an order that is not equal decides
pub decided : (order more : Ordering) → (order ≡ Equal → ⊥) → order ≡ ordering_then order more
decided Less more other = refl
decided Equal more other = absurd (other refl)
decided Greater more other = refl
