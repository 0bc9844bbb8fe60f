-- The laws of compared names.
use Rattle.std.proofs.Common.{◌≡◌, ◌≢◌, ℕ, suc, ◌<◌, ◌≤◌, ◌==◌, true, false, List, [], ◌∷◌, ◌++◌, length, get_or, take, drop, Ok, Err, ◌⊎◌, inl, inr, refl, ap, sym, ◌∙◌, arith, length-append, length-take, length-drop, get_or-take}
use Rattle.std.proofs.lemmas.List.{take-append-le}
use Rattle.std.proofs.lemmas.Bool.Decides.{nat_tests}
use Rattle.elf_model.specs.Prelude.{Differ, IsEmptyAtZero, IsNameOf, IsNameOutside, SameCauses, SameExactly, SameNotExactly, SameOutsideExactly, SameUnendedExactly, begins, same}
use Rattle.elf_model.specs.declared.causes.Cause.TheVariants.{NameOutside, NameUnended}
use Rattle.elf_model.proofs.NameLemmas.{Place, inside, empty, outside, place_of, inside-full, inside-below, outside-full, outside-above, named-inside}

pub same-inside : (table : List ℕ) (index : ℕ) (wanted : List ℕ) → index < length table → same table index wanted ≡ begins (drop index table) (wanted ++ 0 ∷ [])
unfolding same
same-inside table index wanted h = rw (inside-full table index h, inside-below table index h) refl

pub same-empty : (table : List ℕ) (index : ℕ) (wanted : List ℕ) → IsEmptyAtZero table index → same table index wanted ≡ Ok false
unfolding same
same-empty table index wanted h = rw (h.0, h.1) refl

pub same-outside : (table : List ℕ) (index : ℕ) (wanted : List ℕ) → IsNameOutside table index → same table index wanted ≡ Err NameOutside
unfolding same
same-outside table index wanted h = rw (outside-full table index h, outside-above table index h.0) refl

pub begins-nil : (bytes : List ℕ) → begins bytes [] ≡ Ok true
unfolding begins
begins-nil [] = refl
begins-nil (b ∷ bytes) = refl

pub begins-ended : (w : ℕ) (wanted : List ℕ) → begins [] (w ∷ wanted) ≡ Err NameUnended
unfolding begins
begins-ended w wanted = refl

-- a byte that is the wanted one, and one that is another
pub begins-alike : (b w : ℕ) (bytes wanted : List ℕ) → b ≡ w → begins (b ∷ bytes) (w ∷ wanted) ≡ begins bytes wanted
unfolding begins
begins-alike b w bytes wanted h = let t : (b == w) ≡ true = grind (arith, nat_tests) in rw (t, begins) refl

pub begins-other : (b w : ℕ) (bytes wanted : List ℕ) → b ≢ w → begins (b ∷ bytes) (w ∷ wanted) ≡ Ok false
unfolding begins
begins-other b w bytes wanted h = let t : (b == w) ≡ false = grind (arith, nat_tests) in rw (t, begins) refl

-- the three results of a comparison
pub data Compared (bytes wanted : List ℕ) : Type 0 where
  is_alike : take (length wanted) bytes ≡ wanted → begins bytes wanted ≡ Ok true → Compared bytes wanted
  is_other : Differ bytes wanted → begins bytes wanted ≡ Ok false → Compared bytes wanted
  is_short : length bytes < length wanted → bytes ≡ take (length bytes) wanted → begins bytes wanted ≡ Err NameUnended → Compared bytes wanted

-- two numbers are the same or not
pub alike-or-other : (b w : ℕ) → (b ≡ w) ⊎ (b ≢ w)
alike-or-other b w = grind (arith, nat_tests)

compared-more : (b w : ℕ) (bytes wanted : List ℕ) → b ≡ w → Compared bytes wanted → Compared (b ∷ bytes) (w ∷ wanted)
compared-more b w bytes wanted h (is_alike e s) = is_alike (cc) (begins-alike b w bytes wanted h ∙ s)
compared-more b w bytes wanted h (is_other d s) = is_other (suc d.0, omega arith, omega arith, d.3) (begins-alike b w bytes wanted h ∙ s)
compared-more b w bytes wanted h (is_short l e s) = is_short (omega arith) (cc) (begins-alike b w bytes wanted h ∙ s)

pub compared : (bytes wanted : List ℕ) → Compared bytes wanted
compared bytes [] = is_alike refl (begins-nil bytes)
compared [] (w ∷ wanted) = is_short (omega arith) refl (begins-ended w wanted)
compared (b ∷ bytes) (w ∷ wanted) = step (compared bytes wanted) (alike-or-other b w)
  where
    step : Compared bytes wanted → (b ≡ w) ⊎ (b ≢ w) → Compared (b ∷ bytes) (w ∷ wanted)
    step c (inl h) = compared-more b w bytes wanted h c
    step c (inr h) = is_other (0, omega arith, omega arith, h) (begins-other b w bytes wanted h)

-- the results exclude each other
alike-no-other : (bytes wanted : List ℕ) → take (length wanted) bytes ≡ wanted → Differ bytes wanted → ⊥
alike-no-other bytes wanted e d = d.3 (sym (get_or-take (length wanted) bytes d.0 0 d.2) ∙ ap (λ x. get_or x d.0 0) e)

short-no-other : (bytes wanted : List ℕ) → bytes ≡ take (length bytes) wanted → Differ bytes wanted → ⊥
short-no-other bytes wanted e d = d.3 (ap (λ x. get_or x d.0 0) e ∙ get_or-take (length bytes) wanted d.0 0 d.1)

alike-long : (bytes wanted : List ℕ) → take (length wanted) bytes ≡ wanted → length wanted ≤ length bytes
alike-long bytes wanted e = let l = ap length e in omega (arith, length-take (length wanted) bytes)

same-place : (table : List ℕ) (index : ℕ) (wanted : List ℕ) → Compared (drop index table) (wanted ++ 0 ∷ [])
same-place table index wanted = compared (drop index table) (wanted ++ 0 ∷ [])

pub same_exactly : SameExactly
same_exactly table index wanted w = (λ h. there h (place_of table index), back)
  where
    there_inside : same table index wanted ≡ Ok true → index < length table → Compared (drop index table) (wanted ++ 0 ∷ []) → IsNameOf table index wanted
    there_inside h i (is_alike e s) = inl (w.1, e)
    there_inside h i (is_other d s) = let j = same-inside table index wanted i in cc
    there_inside h i (is_short l e s) = let j = same-inside table index wanted i in cc

    there : same table index wanted ≡ Ok true → Place table index → IsNameOf table index wanted
    there h (inside i) = there_inside h i (same-place table index wanted)
    there h (empty e) = let s = same-empty table index wanted e in cc
    there h (outside o) = let s = same-outside table index wanted o in cc

    back_inside : take (length (wanted ++ 0 ∷ [])) (drop index table) ≡ wanted ++ 0 ∷ [] → index < length table → Compared (drop index table) (wanted ++ 0 ∷ []) → same table index wanted ≡ Ok true
    back_inside h i (is_alike e s) = same-inside table index wanted i ∙ s
    back_inside h i (is_other d s) = absurd (alike-no-other (drop index table) (wanted ++ 0 ∷ []) h d)
    back_inside h i (is_short l e s) = let m = alike-long (drop index table) (wanted ++ 0 ∷ []) h in absurd (omega arith)

    back : IsNameOf table index wanted → same table index wanted ≡ Ok true
    back (inl n) = back_inside n.1 (named-inside table index wanted n) (same-place table index wanted)
    back (inr e) = let z = ap length e.1 in absurd (omega arith)

pub same_not : SameNotExactly
same_not table index wanted = (λ h. there h (place_of table index), λ h. back h (place_of table index))
  where
    there_inside : same table index wanted ≡ Ok false → index < length table → Compared (drop index table) (wanted ++ 0 ∷ []) → Differ (drop index table) (wanted ++ 0 ∷ [])
    there_inside h i (is_alike e s) = let j = same-inside table index wanted i in cc
    there_inside h i (is_other d s) = d
    there_inside h i (is_short l e s) = let j = same-inside table index wanted i in cc

    there : same table index wanted ≡ Ok false → Place table index → Differ (drop index table) (wanted ++ 0 ∷ []) ⊎ IsEmptyAtZero table index
    there h (inside i) = inl (there_inside h i (same-place table index wanted))
    there h (empty e) = inr e
    there h (outside o) = let s = same-outside table index wanted o in cc

    back_inside : Differ (drop index table) (wanted ++ 0 ∷ []) → index < length table → Compared (drop index table) (wanted ++ 0 ∷ []) → same table index wanted ≡ Ok false
    back_inside d i (is_alike e s) = absurd (alike-no-other (drop index table) (wanted ++ 0 ∷ []) e d)
    back_inside d i (is_other f s) = same-inside table index wanted i ∙ s
    back_inside d i (is_short l e s) = absurd (short-no-other (drop index table) (wanted ++ 0 ∷ []) e d)

    back : Differ (drop index table) (wanted ++ 0 ∷ []) ⊎ IsEmptyAtZero table index → Place table index → same table index wanted ≡ Ok false
    back (inr e) p = same-empty table index wanted e
    back (inl d) (inside i) = back_inside d i (same-place table index wanted)
    back (inl d) (empty e) = same-empty table index wanted e
    back (inl d) (outside o) = let k = d.1 in absurd (omega (arith, length-drop index table))

pub same_outside : SameOutsideExactly
same_outside table index wanted = (λ h. there h (place_of table index), same-outside table index wanted)
  where
    there_inside : same table index wanted ≡ Err NameOutside → index < length table → Compared (drop index table) (wanted ++ 0 ∷ []) → IsNameOutside table index
    there_inside h i (is_alike e s) = let j = same-inside table index wanted i in cc
    there_inside h i (is_other d s) = let j = same-inside table index wanted i in cc
    there_inside h i (is_short l e s) = let j = same-inside table index wanted i in cc

    there : same table index wanted ≡ Err NameOutside → Place table index → IsNameOutside table index
    there h (inside i) = there_inside h i (same-place table index wanted)
    there h (empty e) = let s = same-empty table index wanted e in cc
    there h (outside o) = o

-- what a comparison has seen if the table ends too early
short-front : (bytes wanted : List ℕ) → length bytes < length (wanted ++ 0 ∷ []) → bytes ≡ take (length bytes) (wanted ++ 0 ∷ [])
    → (length bytes ≤ length wanted) × (bytes ≡ take (length bytes) wanted)
short-front bytes wanted l e =
    let few : length bytes ≤ length wanted = omega (arith, length-append wanted (0 ∷ [])) in
    (few, e ∙ take-append-le (length bytes) wanted (0 ∷ []) few)

pub same_unended : SameUnendedExactly
same_unended table index wanted = (λ h. there h (place_of table index), λ h. back h.0 h.1 h.2 (same-place table index wanted))
  where
    there_inside : same table index wanted ≡ Err NameUnended → index < length table → Compared (drop index table) (wanted ++ 0 ∷ [])
        → (index < length table) × (length (drop index table) ≤ length wanted) × (drop index table ≡ take (length (drop index table)) wanted)
    there_inside h i (is_alike e s) = let j = same-inside table index wanted i in cc
    there_inside h i (is_other d s) = let j = same-inside table index wanted i in cc
    there_inside h i (is_short l e s) = let f = short-front (drop index table) wanted l e in (i, f.0, f.1)

    there : same table index wanted ≡ Err NameUnended → Place table index
        → (index < length table) × (length (drop index table) ≤ length wanted) × (drop index table ≡ take (length (drop index table)) wanted)
    there h (inside i) = there_inside h i (same-place table index wanted)
    there h (empty e) = let s = same-empty table index wanted e in cc
    there h (outside o) = let s = same-outside table index wanted o in cc

    back : index < length table → length (drop index table) ≤ length wanted → drop index table ≡ take (length (drop index table)) wanted
        → Compared (drop index table) (wanted ++ 0 ∷ []) → same table index wanted ≡ Err NameUnended
    back i l e (is_alike a s) =
        let m = alike-long (drop index table) (wanted ++ 0 ∷ []) a in absurd (omega (arith, length-append wanted (0 ∷ [])))
    back i l e (is_other d s) =
        absurd (short-no-other (drop index table) (wanted ++ 0 ∷ []) (e ∙ sym (take-append-le (length (drop index table)) wanted (0 ∷ []) l)) d)
    back i l e (is_short m f s) = same-inside table index wanted i ∙ s

pub same_causes : SameCauses
same_causes table index wanted cause h = there (place_of table index)
  where
    there_inside : index < length table → Compared (drop index table) (wanted ++ 0 ∷ []) → (cause ≡ NameOutside) ⊎ (cause ≡ NameUnended)
    there_inside i (is_alike e s) = let j = same-inside table index wanted i in cc
    there_inside i (is_other d s) = let j = same-inside table index wanted i in cc
    there_inside i (is_short l e s) = let j = same-inside table index wanted i in inr (cc)

    there : Place table index → (cause ≡ NameOutside) ⊎ (cause ≡ NameUnended)
    there (inside i) = there_inside i (same-place table index wanted)
    there (empty e) = let s = same-empty table index wanted e in cc
    there (outside o) = let s = same-outside table index wanted o in inl (cc)
