-- Two lists of checks, one after the other.
use Rattle.std.proofs.Common.{◌≡◌, Bool, true, false, List, [], ◌∷◌, ◌++◌, Option, None, Some, refl, sym, ◌∙◌, inl, inr}
use Rattle.std.specs.Prelude.{is_none}
use Rattle.std.proofs.lemmas.Bool.{cases_Bool}
use Rattle.elf_model.specs.Prelude.{Check, first_refusal, pass}
use Rattle.elf_model.specs.declared.causes.Refusal.{Refusal}

-- a refusal in the first list is the result
pub first_refusal-some :
    (front back : List Check) (refusal : Refusal) → first_refusal front ≡ Some refusal
    → first_refusal (front ++ back) ≡ Some refusal
first_refusal-some [] back refusal e = absurd (cc)
first_refusal-some (check ∷ front) back refusal e =
    elim (cases_Bool check.fails) [
      | inl fails ↦ rw fails (rw fails at e)
      | inr passes ↦ rw passes (first_refusal-some front back refusal (rw passes at e))
    ]

-- if the first list passes, the second decides
pub first_refusal-none :
    (front back : List Check) → first_refusal front ≡ None → first_refusal (front ++ back) ≡ first_refusal back
first_refusal-none [] back e = refl
first_refusal-none (check ∷ front) back e =
    elim (cases_Bool check.fails) [
      | inl fails ↦ let f = rw fails at e in absurd (cc)
      | inr passes ↦ rw passes (first_refusal-none front back (rw passes at e))
    ]

-- if both lists pass together, the second passes
pub first_refusal-back : (front back : List Check) → first_refusal (front ++ back) ≡ None → first_refusal back ≡ None
first_refusal-back front back e = go (first_refusal front) refl
  where
    go : (refusal : Option Refusal) → first_refusal front ≡ refusal → first_refusal back ≡ None
    go None f = sym (first_refusal-none front back f) ∙ e
    go (Some refusal) f = let g = first_refusal-some front back refusal f in absurd (cc)

-- if two lists of checks pass, the first does
pub passes_front : (front rest : List Check) → first_refusal (front ++ rest) ≡ None → first_refusal front ≡ None
passes_front front rest h = by_cases (first_refusal front) (λ refusal fails. first_refusal-some front rest refusal fails)
  where
    by_cases : (first : Option Refusal) → ((refusal : Refusal) → first ≡ Some refusal → first_refusal (front ++ rest) ≡ Some refusal) → first ≡ None
    by_cases None fails = refl
    by_cases (Some refusal) fails = let refused = fails refusal refl in cc

-- every check of a list passes
abbrev pub AllPass : List Check → Type 0
AllPass [] = Unit {0}
AllPass (check ∷ checks) = (check.fails ≡ false) × AllPass checks

first_passes : (fails : Bool) (refusal : Refusal) (checks : List Check)
    → is_none (elim fails [ true ↦ Some refusal | false ↦ first_refusal checks ]) ≡ true → (fails ≡ false) × (pass checks ≡ true)
first_passes true refusal checks h = cc
first_passes false refusal checks h = (refl, h)

pub all_pass : (checks : List Check) → pass checks ≡ true → AllPass checks
all_pass [] h = tt
all_pass (check ∷ checks) h =
    let p = first_passes check.fails check.refusal checks h in
    (p.0, all_pass checks p.1)

pub pass-behind : (front checks : List Check) → AllPass (front ++ checks) → AllPass checks
pass-behind [] checks h = h
pass-behind (check ∷ front) checks h = pass-behind front checks h.1
