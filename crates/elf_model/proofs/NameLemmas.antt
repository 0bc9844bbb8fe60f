-- What the definitions of names say, one case at a time.
use Rattle.std.proofs.Common.{min, ◌≡◌, ℕ, suc, zero, ◌+◌, ◌-◌, ◌<◌, ◌≤◌, nat_lt, true, false, List, [], ◌∷◌, ◌++◌, length, take, drop, Option, Some, None, Ok, Err, ◌⊎◌, inl, inr, refl, ap, sym, ◌∙◌, arith, length-append, length-take, length-drop, take-append-drop, zero-le}
use Rattle.std.proofs.lemmas.List.{take-take, append_assoc, take_all}
use Rattle.std.proofs.lemmas.Bool.Decides.{nat_tests}
use Rattle.std.proofs.lemmas.Bool.{cases_lt}
use Rattle.elf_model.specs.Prelude.{Cut, IsEmptyAtZero, IsNameOutside, IsNulTerminatedAt, is_empty_at_zero, nul_in, shown, shown_of, slice}
use Rattle.elf_model.specs.declared.causes.Cause.TheVariants.{NameOutside, NameUnended}
use Rattle.elf_model.specs.Names.DisplayedName.{Whole}

-- an index is below a table's size, in an empty table at 0, or past it
pub data Place (table : List ℕ) (index : ℕ) : Type 0 where
  inside : index < length table → Place table index
  empty : IsEmptyAtZero table index → Place table index
  outside : IsNameOutside table index → Place table index

pub place_of : (table : List ℕ) (index : ℕ) → Place table index
place_of [] zero = empty (refl, refl)
place_of [] (suc index) = outside (zero-le, λ e. absurd (omega arith))
place_of (b ∷ table) index = split (cases_lt index (length (b ∷ table)))
  where
    split : (index < length (b ∷ table)) ⊎ (length (b ∷ table) ≤ index) → Place (b ∷ table) index
    split (inl h) = inside h
    split (inr h) = outside (h, λ e. absurd (omega arith))

pub inside-full : (table : List ℕ) (index : ℕ) → index < length table → is_empty_at_zero table index ≡ false
inside-full table index h = grind (arith, nat_tests)

pub inside-below : (table : List ℕ) (index : ℕ) → index < length table → nat_lt index (length table) ≡ true
inside-below table index h = grind (arith, nat_tests)

pub outside-above : (table : List ℕ) (index : ℕ) → length table ≤ index → nat_lt index (length table) ≡ false
outside-above table index h = grind (arith, nat_tests)

pub outside-full : (table : List ℕ) (index : ℕ) → IsNameOutside table index → is_empty_at_zero table index ≡ false
outside-full [] zero h = absurd (h.1 (refl, refl))
outside-full [] (suc index) h = grind (arith, nat_tests)
outside-full (b ∷ table) index h = grind (arith, nat_tests)

pub shown-inside : (table : List ℕ) (index cap : ℕ) → index < length table → shown table index cap ≡ shown_of cap (slice table index (cap + 1)) (nul_in (slice table index (cap + 1)))
unfolding shown
shown-inside table index cap h = rw (inside-full table index h, inside-below table index h) refl

pub shown-empty : (table : List ℕ) (index cap : ℕ) → IsEmptyAtZero table index → shown table index cap ≡ Ok (Whole [])
unfolding shown
shown-empty table index cap h = rw (h.0, h.1) refl

pub shown-outside : (table : List ℕ) (index cap : ℕ) → IsNameOutside table index → shown table index cap ≡ Err NameOutside
unfolding shown
shown-outside table index cap h = rw (outside-full table index h, outside-above table index h.0) refl

-- the bytes at an index below the table's size
length-front : (table : List ℕ) (index cap : ℕ) → index < length table → length (slice table index (cap + 1)) ≡ min (cap + 1) (length table - index)
length-front table index cap h = simp (length-take, length-drop)

shown_of-none : (cap : ℕ) (bytes : List ℕ) → cap < length bytes → shown_of cap bytes None ≡ Ok (Cut (take cap bytes))
shown_of-none cap bytes l = let t : nat_lt cap (length bytes) ≡ true = grind (arith, nat_tests) in rw t refl

shown_of-few : (cap : ℕ) (bytes : List ℕ) → length bytes ≤ cap → shown_of cap bytes None ≡ Err NameUnended
shown_of-few cap bytes l = let t : nat_lt cap (length bytes) ≡ false = grind (arith, nat_tests) in rw t refl

-- the ways in which a name is shown, one for each table, index and cap
pub data View (table : List ℕ) (index cap : ℕ) : Type 0 where
  is_empty : IsEmptyAtZero table index → shown table index cap ≡ Ok (Whole []) → View table index cap
  is_outside : IsNameOutside table index → shown table index cap ≡ Err NameOutside → View table index cap
  is_whole : (place : ℕ) → index < length table → nul_in (slice table index (cap + 1)) ≡ Some place
      → shown table index cap ≡ Ok (Whole (take place (slice table index (cap + 1)))) → View table index cap
  is_cut : index + cap < length table → nul_in (slice table index (cap + 1)) ≡ None
      → shown table index cap ≡ Ok (Cut (slice table index cap)) → View table index cap
  is_unended : index < length table → length table ≤ index + cap → nul_in (drop index table) ≡ None
      → shown table index cap ≡ Err NameUnended → View table index cap

view-none : (table : List ℕ) (index cap : ℕ) → index < length table → nul_in (slice table index (cap + 1)) ≡ None → View table index cap
view-none table index cap h none = split (cases_lt cap (length (slice table index (cap + 1))))
  where
    split : (cap < length (slice table index (cap + 1))) ⊎ (length (slice table index (cap + 1)) ≤ cap) → View table index cap
    split (inl l) =
        let e = length-front table index cap h in
        is_cut (omega arith) none
        (shown-inside table index cap h ∙ ap (shown_of cap (slice table index (cap + 1))) none ∙ shown_of-none cap (slice table index (cap + 1)) l
        ∙ ap (λ (x : List ℕ). Ok (Cut x)) (take-take cap (cap + 1) (drop index table) (omega arith)))
    split (inr l) =
        let e = length-front table index cap h in
        let d = length-drop index table in
        let all : slice table index (cap + 1) ≡ drop index table = take_all (cap + 1) (drop index table) (omega arith) in
        is_unended h (omega arith) (rw all at none)
        (shown-inside table index cap h ∙ ap (shown_of cap (slice table index (cap + 1))) none ∙ shown_of-few cap (slice table index (cap + 1)) l)

pub view : (table : List ℕ) (index cap : ℕ) → View table index cap
view table index cap = split (place_of table index)
  where
    found : index < length table → (o : Option ℕ) → nul_in (slice table index (cap + 1)) ≡ o → View table index cap
    found h (Some place) e = is_whole place h e (shown-inside table index cap h ∙ ap (shown_of cap (slice table index (cap + 1))) e)
    found h None e = view-none table index cap h e

    split : Place table index → View table index cap
    split (inside h) = found h (nul_in (slice table index (cap + 1))) refl
    split (empty h) = is_empty h (shown-empty table index cap h)
    split (outside h) = is_outside h (shown-outside table index cap h)

-- what is at a name's index
pub named-drop : (table : List ℕ) (index : ℕ) (name : List ℕ) → IsNulTerminatedAt table index name → (rest : List ℕ) × (drop index table ≡ name ++ 0 ∷ rest)
named-drop table index name h =
    let n : ℕ = length (name ++ 0 ∷ []) in
    let both : (name ++ 0 ∷ []) ++ drop n (drop index table) ≡ drop index table = rw (h.1) at (take-append-drop n (drop index table)) in
    (drop n (drop index table), sym both ∙ append_assoc name (0 ∷ []) (drop n (drop index table)))

pub named-inside : (table : List ℕ) (index : ℕ) (name : List ℕ) → IsNulTerminatedAt table index name → index < length table
named-inside table index name h =
    let e = ap length h.1 in
    omega (arith, length-take (length (name ++ 0 ∷ [])) (drop index table), length-drop index table, length-append name (0 ∷ []))
