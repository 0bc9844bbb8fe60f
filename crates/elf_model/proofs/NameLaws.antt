-- The laws of shown names.
use Rattle.std.proofs.Common.{◌≡◌, ℕ, suc, ◌+◌, ◌<◌, ◌≤◌, List, [], ◌∷◌, ◌++◌, length, take, drop, Some, None, Ok, Err, ◌⊎◌, inl, inr, refl, ap, sym, ◌∙◌, arith, length-append, length-take, length-drop, zero-le}
use Rattle.std.proofs.lemmas.List.{take_at, take-take, append_assoc, take_all}
use Rattle.elf_model.specs.Prelude.{Cut, IsNameOf, IsNameOutside, IsNulTerminatedAt, OneNameAtMost, PadsToPieces, ShownCauses, ShownCutExactly, ShownOutsideExactly, ShownUnendedExactly, ShownWholeExactly, nul_in, shown, slice}
use Rattle.elf_model.specs.declared.causes.Cause.TheVariants.{NameOutside, NameUnended}
use Rattle.elf_model.specs.Names.DisplayedName.{Whole}
use Rattle.elf_model.proofs.Nuls.{free, none-free, free-none, some-free, free-append, free-take, free-within, split_at_nul}
use Rattle.elf_model.proofs.NameLemmas.{View, is_empty, is_outside, is_whole, is_cut, is_unended, view, named-drop, named-inside, shown-empty, shown-outside}

-- the first NUL at a name's index is the one after the name
named-free : (table : List ℕ) (index : ℕ) (name : List ℕ) → IsNulTerminatedAt table index name
    → (free (drop index table) ≡ length name) × (length name < length (drop index table)) × (take (length name) (drop index table) ≡ name)
named-free table index name h =
    let d = named-drop table index name h in
    let e : free (name ++ 0 ∷ d.0) ≡ length name + 0 = free-append name (0 ∷ d.0) (none-free name h.0) in
    let l : length (name ++ 0 ∷ d.0) ≡ length name + suc (length d.0) = length-append name (0 ∷ d.0) in
    rw (d.1) (omega arith, omega arith, take_at name (0 ∷ d.0) (length name) refl)

pub one_name : OneNameAtMost
one_name table index a b (inl ha) (inl hb) =
    let fa = named-free table index a ha in
    let fb = named-free table index b hb in
    let e : length a ≡ length b = omega arith in
    sym fa.2 ∙ ap (λ n. take n (drop index table)) e ∙ fb.2
one_name table index a b (inl ha) (inr hb) = let i = named-inside table index a ha in let l = ap length hb.0.0 in absurd (omega arith)
one_name table index a b (inr ha) (inl hb) = let i = named-inside table index b hb in let l = ap length ha.0.0 in absurd (omega arith)
one_name table index a b (inr ha) (inr hb) = ha.1 ∙ sym hb.1

-- a prefix that is a name, a NUL and more has the name at its start
is_there-front : (bytes name rest : List ℕ) (cap : ℕ) → take (cap + 1) bytes ≡ name ++ 0 ∷ rest → take (length (name ++ 0 ∷ [])) bytes ≡ name ++ 0 ∷ []
is_there-front bytes name rest cap e =
    let n : ℕ = length (name ++ 0 ∷ []) in
    let l = ap length e in
    let short : n ≤ cap + 1 = omega (arith, length-take (cap + 1) bytes, length-append name (0 ∷ rest), length-append name (0 ∷ [])) in
    sym (take-take n (cap + 1) bytes short) ∙ ap (take n) (e ∙ sym (append_assoc name (0 ∷ []) rest)) ∙ take_at (name ++ 0 ∷ []) rest n refl

front-named : (table : List ℕ) (index cap place : ℕ) → nul_in (slice table index (cap + 1)) ≡ Some place
    → IsNulTerminatedAt table index (take place (slice table index (cap + 1))) × (length (take place (slice table index (cap + 1))) ≤ cap)
front-named table index cap place h =
    let front : List ℕ = slice table index (cap + 1) in
    let f = some-free front place h in
    let few = free-take front place (omega arith) in
    let parts = split_at_nul front (omega arith) in
    let there = rw (f.0) at parts in (
      (free-none (take place front) few, is_there-front (drop index table) (take place front) (drop (place + 1) front) cap there),
      omega (arith, length-take place front, length-take (cap + 1) (drop index table)),
    )

pub shown_whole : ShownWholeExactly
shown_whole table index cap name = (λ h. there h (view table index cap), λ h. back h.0 h.1 (view table index cap))
  where
    there : shown table index cap ≡ Ok (Whole name) → View table index cap → IsNameOf table index name × (length name ≤ cap)
    there h (is_empty e s) = let n : name ≡ [] = cc in (inr (e, n), rw n zero-le)
    there h (is_outside e s) = cc
    there h (is_whole place i n s) =
        let e : take place (slice table index (cap + 1)) ≡ name = cc in
        let f = front-named table index cap place n in
        (inl (rw e at f.0), rw e at f.1)
    there h (is_cut i n s) = cc
    there h (is_unended i l n s) = cc

    back : IsNameOf table index name → length name ≤ cap → View table index cap → shown table index cap ≡ Ok (Whole name)
    back (inr e) l v = shown-empty table index cap e.0 ∙ ap (λ (x : List ℕ). Ok (Whole x)) (sym e.1)
    back (inl h) l (is_empty e s) = let i = named-inside table index name h in let z = ap length e.0 in absurd (omega arith)
    back (inl h) l (is_outside e s) = let i = named-inside table index name h in absurd (omega arith)
    back (inl h) l (is_whole place i n s) =
        let f = named-free table index name h in
        let w = free-within (drop index table) (cap + 1) (omega arith) (omega arith) in
        let p = some-free (slice table index (cap + 1)) place n in
        let e : place ≡ length name = omega arith in
        s ∙ ap (λ (x : List ℕ). Ok (Whole x)) (take-take place (cap + 1) (drop index table) (omega arith) ∙ ap (λ x. take x (drop index table)) e ∙ f.2)
    back (inl h) l (is_cut i n s) =
        let f = named-free table index name h in
        let w = free-within (drop index table) (cap + 1) (omega arith) (omega arith) in
        let p = none-free (slice table index (cap + 1)) n in
        absurd (omega (arith, length-take (cap + 1) (drop index table)))
    back (inl h) l (is_unended i few n s) =
        let f = named-free table index name h in
        let p = none-free (drop index table) n in
        absurd (omega arith)

pub shown_cut : ShownCutExactly
shown_cut table index cap front = (λ h. there h (view table index cap), λ h. back h.0 h.1 h.2 (view table index cap))
  where
    there : shown table index cap ≡ Ok (Cut front) → View table index cap
        → (index + cap < length table) × (nul_in (slice table index (cap + 1)) ≡ None) × (front ≡ slice table index cap)
    there h (is_empty e s) = cc
    there h (is_outside e s) = cc
    there h (is_whole place i n s) = cc
    there h (is_cut i n s) = (i, n, cc)
    there h (is_unended i l n s) = cc

    back : index + cap < length table → nul_in (slice table index (cap + 1)) ≡ None → front ≡ slice table index cap → View table index cap
        → shown table index cap ≡ Ok (Cut front)
    back l n f (is_empty e s) = let z = ap length e.0 in absurd (omega arith)
    back l n f (is_outside e s) = absurd (omega arith)
    back l n f (is_whole place i m s) = cc
    back l n f (is_cut i m s) = s ∙ ap (λ (x : List ℕ). Ok (Cut x)) (sym f)
    back l n f (is_unended i few m s) = absurd (omega arith)

pub shown_outside : ShownOutsideExactly
shown_outside table index cap = (λ h. there h (view table index cap), shown-outside table index cap)
  where
    there : shown table index cap ≡ Err NameOutside → View table index cap → IsNameOutside table index
    there h (is_empty e s) = cc
    there h (is_outside e s) = e
    there h (is_whole place i n s) = cc
    there h (is_cut i n s) = cc
    there h (is_unended i l n s) = cc

pub shown_unended : ShownUnendedExactly
shown_unended table index cap = (λ h. there h (view table index cap), λ h. back h.0 h.1 h.2 (view table index cap))
  where
    there : shown table index cap ≡ Err NameUnended → View table index cap
        → (index < length table) × (length table ≤ index + cap) × (nul_in (drop index table) ≡ None)
    there h (is_empty e s) = cc
    there h (is_outside e s) = cc
    there h (is_whole place i n s) = cc
    there h (is_cut i n s) = cc
    there h (is_unended i l n s) = (i, l, n)

    back : index < length table → length table ≤ index + cap → nul_in (drop index table) ≡ None → View table index cap
        → shown table index cap ≡ Err NameUnended
    back i l n (is_empty e s) = let z = ap length e.0 in absurd (omega arith)
    back i l n (is_outside e s) = absurd (omega arith)
    back i l n (is_whole place j m s) =
        let all : slice table index (cap + 1) ≡ drop index table = take_all (cap + 1) (drop index table) (omega (arith, length-drop index table)) in
        let k = rw all at m in
        cc
    back i l n (is_cut j m s) = absurd (omega arith)
    back i l n (is_unended j few m s) = s

pub shown_causes : ShownCauses
shown_causes table index cap cause h = there (view table index cap)
  where
    there : View table index cap → (cause ≡ NameOutside) ⊎ (cause ≡ NameUnended)
    there (is_empty e s) = cc
    there (is_outside e s) = inl (cc)
    there (is_whole place i n s) = cc
    there (is_cut i n s) = cc
    there (is_unended i l n s) = inr (cc)

pub pads_to_pieces : PadsToPieces
pads_to_pieces n = omega arith
