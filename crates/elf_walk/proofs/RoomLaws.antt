-- How much memory names take.
use Rattle.std.proofs.Common.{◌≡◌, ℕ, ◌+◌, ◌<◌, ◌≤◌, inl, inr, Bool, true, List, [], ◌∷◌, ◌++◌, length, drop, map, refl, ap, sym, ◌∙◌, arith, subst, length-append, length-take-le, length-drop}
use Rattle.std.proofs.lemmas.List.Elements.{All-head, All-tail}
use Rattle.std.proofs.lemmas.List.Sums.{sum_by-cons, sum_by_push}
use Rattle.std.specs.Prelude.{All, sum_by}
use Rattle.std.specs.declared.cmp.Ordering.{Ordering}
use Rattle.std.specs.declared.cmp.Ordering.TheVariants.{Less, Equal, Greater}
use Rattle.elf_model.specs.Bytes.{slice}
use Rattle.elf_walk.specs.Prelude.{HoldsWithin, IsEnough, IsSmallDirectory, IsWithinKept, KeptNames, LeavesRoom, bytes_held, in_order, insert_by, order}
use Rattle.elf_walk.proofs.SortedLaws.{all_more}

piece_length : (bytes : List ℕ) (start len : ℕ) → start + len ≤ length bytes → length (slice bytes start len) ≡ len
piece_length bytes start len within = length-take-le len (drop start bytes) (omega (arith, length-drop start bytes))

-- names that lie among bytes have as many bytes as their spans say
module _ {X : Type 0} (start len : X → ℕ) where
  pub held_is : (ps : List X) (bytes : List ℕ) → All (λ p. start p + len p ≤ length bytes) ps
      → bytes_held (map (λ p. slice bytes (start p) (len p)) ps) ≡ sum_by len ps
  held_is [] bytes all = refl
  held_is (p ∷ ps) bytes all =
      sum_by-cons (λ name. length name) (slice bytes (start p) (len p)) (map (λ q. slice bytes (start q) (len q)) ps)
      ∙ ap (λ n. n + bytes_held (map (λ q. slice bytes (start q) (len q)) ps)) (piece_length bytes (start p) (len p) (All-head (λ q. start q + len q ≤ length bytes) p ps all))
      ∙ ap (λ n. len p + n) (held_is ps bytes (All-tail (λ q. start q + len q ≤ length bytes) p ps all))
      ∙ sym (sum_by-cons len p ps)

-- inserting a name takes none away
pub put_rises : (name : List ℕ) (names : List (List ℕ)) → (length names ≤ length (insert_by (λ n. n) name names)) × (bytes_held names ≤ bytes_held (insert_by (λ n. n) name names))
unfolding insert_by
put_rises name [] = (omega arith, omega arith)
put_rises name (first ∷ rest) = by (order name first) (put_rises name rest)
  where
    by : (o : Ordering) → (length rest ≤ length (insert_by (λ n. n) name rest)) × (bytes_held rest ≤ bytes_held (insert_by (λ n. n) name rest))
        → (length (first ∷ rest) ≤ length (elim o as (λ _. List (List ℕ)) [ Less ↦ name ∷ first ∷ rest | Equal ↦ first ∷ rest | Greater ↦ first ∷ insert_by (λ n. n) name rest ]))
        × (bytes_held (first ∷ rest) ≤ bytes_held (elim o as (λ _. List (List ℕ)) [ Less ↦ name ∷ first ∷ rest | Equal ↦ first ∷ rest | Greater ↦ first ∷ insert_by (λ n. n) name rest ]))
    by Less ih = (omega arith, omega (arith, sum_by-cons (λ (n : List ℕ). length n) name (first ∷ rest)))
    by Equal ih = (omega arith, omega arith)
    by Greater ih = (
      omega (arith, ih.0),
      omega (arith, ih.1, sum_by-cons (λ (n : List ℕ). length n) first rest, sum_by-cons (λ (n : List ℕ). length n) first (insert_by (λ n. n) name rest)),
    )

pub enough_more : (name : List ℕ) (names : List (List ℕ)) → IsEnough names → IsEnough (insert_by (λ n. n) name names)
enough_more name names (inl many) = inl (omega (arith, many, (put_rises name names).0))
enough_more name names (inr long) = inr (omega (arith, long, (put_rises name names).1))

-- one name after others
pub held_more : (names : List (List ℕ)) (name : List ℕ) → bytes_held (names ++ name ∷ []) ≡ bytes_held names + length name
held_more names name = sum_by_push (λ (n : List ℕ). length n) names name

-- a name is inserted after others that are not enough
pub few_more : (names : List (List ℕ)) (name : List ℕ) → (0 < length names → IsSmallDirectory names) → length name ≤ 255 → IsWithinKept (names ++ name ∷ [])
few_more [] name few short = (omega arith, omega (arith, held_more [] name))
few_more (x ∷ xs) name few short =
    let now = few (omega arith) in
    (omega (arith, now.0, length-append (x ∷ xs) (name ∷ [])), omega (arith, now.1, held_more (x ∷ xs) name))

-- one more name is held
pub holds_more : (kept new : List (List ℕ)) (name after limit : List ℕ) (more : Bool) → LeavesRoom kept → length name ≤ 255 → (more ≡ true → IsEnough (in_order kept))
    → new ≡ kept ++ name ∷ [] → HoldsWithin record { names = in_order new; held = new; after = after; limit = limit; more = more }
holds_more kept new name after limit more room short enough is =
    let rises : IsEnough (in_order kept) → IsEnough (in_order (kept ++ name ∷ [])) =
    λ had. subst IsEnough (sym (all_more kept name [])) (enough_more name (in_order kept) had) in
    subst (λ (l : List (List ℕ)). HoldsWithin record { names = in_order l; held = l; after = after; limit = limit; more = more }) (sym is) record {
      room = (omega (arith, room.0, length-append kept (name ∷ [])), omega (arith, room.1, short, held_more kept name));
      enough = λ yes. rises (enough yes);
    }

-- no more name is held
pub holds_still : (kept : KeptNames) → LeavesRoom kept.held → (kept.more ≡ true → IsEnough kept.names) → HoldsWithin kept
holds_still kept room enough = record { room = (omega (arith, room.0), omega (arith, room.1)); enough = enough }
