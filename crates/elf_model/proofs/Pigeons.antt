-- More numbers than there are values: two of them have the same.
use Rattle.std.proofs.Common.{◌≡◌, ℕ, zero, suc, cond, eqb, ◌<◌, ◌≤◌, ◌⊎◌, inl, inr, sym, ◌∙◌, arith}
use Rattle.std.proofs.lemmas.Bool.{cases_eq, cond-true, cond-false, eq-eqb, ne_eqb}
use Rattle.elf_model.specs.HashLaws.{Repeats}

-- a number up to n whose value is v
record Has (f : ℕ → ℕ) (v n : ℕ) : Type 0 where
  place : ℕ
  within : place ≤ n
  is : f place ≡ v

-- no number up to n has the value v
Lacks : (ℕ → ℕ) → ℕ → ℕ → Type 0
Lacks f v n = (i : ℕ) → i ≤ n → f i ≡ v → ⊥

-- a value is among those up to n, or it is not
has_or_lacks : (f : ℕ → ℕ) (v n : ℕ) → Has f v n ⊎ Lacks f v n
unfolding Lacks
has_or_lacks f v zero =
    elim (cases_eq (f 0) v) [
      | inl e ↦ inl (record { place = 0; within = omega arith; is = e })
      | inr differs ↦ inr (λ i h e. let z : i ≡ 0 = omega arith in differs (rw z at e))
    ]
has_or_lacks f v (suc n) =
    elim (cases_eq (f (suc n)) v) [
      | inl e ↦ inl (record { place = suc n; within = omega arith; is = e })
      | inr differs ↦ elim (has_or_lacks f v n) [
        | inl found ↦ inl (record { place = found.place; within = let w = found.within in omega arith; is = found.is })
        | inr lacks ↦ inr (λ i h e. elim (cases_eq i (suc n)) [
          | inl same ↦ differs (rw same at e)
          | inr other ↦ lacks i (omega arith) e
        ])
      ]
    ]

-- the value v in place of n
stand_in : (ℕ → ℕ) → ℕ → ℕ → ℕ → ℕ
stand_in f v n i = cond (eqb (f i) n) v (f i)

stand_in_at : (f : ℕ → ℕ) (v n i : ℕ) → f i ≡ n → stand_in f v n i ≡ v
unfolding stand_in
stand_in_at f v n i e = cond-true (eqb (f i) n) v (f i) (eq-eqb (f i) n e)

stand_in_past : (f : ℕ → ℕ) (v n i : ℕ) → (f i ≡ n → ⊥) → stand_in f v n i ≡ f i
unfolding stand_in
stand_in_past f v n i e = cond-false (eqb (f i) n) v (f i) (ne_eqb (f i) n e)

-- with v, the last value, in place of n all the others are below n
stand_in_below :
    (f : ℕ → ℕ) (n : ℕ) → ((i : ℕ) → i ≤ suc n → f i < suc n) → Lacks f (f (suc n)) n
    → (i : ℕ) → i ≤ n → stand_in f (f (suc n)) n i < n
unfolding Lacks
stand_in_below f n below lacks i within =
    elim (cases_eq (f i) n) [
      | inl e ↦ let last : f (suc n) < suc n = below (suc n) (omega arith) in
          let other : f (suc n) ≡ n → ⊥ = λ same. lacks i within (e ∙ sym same) in
          rw (stand_in_at f (f (suc n)) n i e) (omega arith)
      | inr differs ↦ let here : f i < suc n = below i (omega arith) in
          rw (stand_in_past f (f (suc n)) n i differs) (omega arith)
    ]

-- two of the others that are the same with v in place of n are the same
stand_in_same :
    (f : ℕ → ℕ) (v n i j : ℕ) → Lacks f v n → i ≤ n → j ≤ n → stand_in f v n i ≡ stand_in f v n j → f i ≡ f j
unfolding Lacks
stand_in_same f v n i j lacks at_i at_j e =
    elim (cases_eq (f i) n) [
      | inl here ↦ elim (cases_eq (f j) n) [
        | inl there ↦ here ∙ sym there
        | inr past ↦ absurd (lacks j at_j (sym (stand_in_past f v n j past) ∙ sym e ∙ stand_in_at f v n i here))
      ]
      | inr gone ↦ elim (cases_eq (f j) n) [
        | inl there ↦ absurd (lacks i at_i (sym (stand_in_past f v n i gone) ∙ e ∙ stand_in_at f v n j there))
        | inr past ↦ sym (stand_in_past f v n i gone) ∙ e ∙ stand_in_past f v n j past
      ]
    ]

-- of n + 1 numbers below n two are the same
pub two_are_the_same : (n : ℕ) (f : ℕ → ℕ) → ((i : ℕ) → i ≤ n → f i < n) → Repeats f n
two_are_the_same zero f below = let low : f 0 < 0 = below 0 (omega arith) in absurd (omega arith)
two_are_the_same (suc n) f below =
    elim (has_or_lacks f (f (suc n)) n) [
      | inl found ↦ let w = found.within in
          record { earlier = found.place; later = suc n; before = omega arith; within = omega arith; again = found.is }
      | inr lacks ↦
          let r = two_are_the_same n (stand_in f (f (suc n)) n) (stand_in_below f n below lacks) in
          let b = r.before in
          let w = r.within in
          record {
            earlier = r.earlier;
            later = r.later;
            before = b;
            within = omega arith;
            again = stand_in_same f (f (suc n)) n r.earlier r.later lacks (omega arith) w r.again;
          }
    ]
