-- A lookup step by step: the result after each stage, and the words as they are read.
use Rattle.std.proofs.Common.{◌≡◌, ℕ, zero, suc, ◌+◌, ◌*◌, ◌<◌, ◌≤◌, inl, inr, Bool, true, false, List, ◌++◌, length, Option, None, Some, refl, ap, arith}
use Rattle.std.proofs.lemmas.Bool.{cases_eq}
use Rattle.elf_model.specs.Prelude.{GoesOn, e_shnum, early_checks, find_cost, first_hash, first_refusal, first_that, hash_checks, header_checks, load_checks, looked, looked_in, looked_up, pad64, refused_after, section_at, shape_checks}
use Rattle.elf_model.specs.declared.causes.Cause.TheVariants.{NoHash}
use Rattle.elf_model.specs.declared.causes.Refusal.{Refusal}

-- one more word goes on
pub goes_on_more : {E : Type 0} (ends : ℕ → Option E) (words : ℕ → ℕ) (n : ℕ) → GoesOn ends words n → ends (words n) ≡ None → GoesOn ends words (suc n)
goes_on_more ends words n goes here i low =
    elim (cases_eq i n) [ inl same ↦ rw same here | inr other ↦ goes i (omega arith) ]

-- the stages of a lookup in a file
module _ (file : List ℕ) (headers : ℕ) (wanted : List ℕ) where
  pub looked-refused :
      (refusal : Refusal) → first_refusal (header_checks file ++ load_checks file headers) ≡ Some refusal
      → looked file headers wanted ≡ refused_after 0 refusal
  unfolding looked
  looked-refused refusal e = rw (e, looked) refl

  pub looked-no_hash :
      first_refusal (header_checks file ++ load_checks file headers) ≡ None → first_hash file ≡ None
      → looked file headers wanted ≡ refused_after 0 (record { at = 0x28; cause = NoHash })
  unfolding looked
  looked-no_hash e n = rw (e, looked) (rw (n, looked) refl)

  pub looked-at :
      (section : ℕ) → first_refusal (header_checks file ++ load_checks file headers) ≡ None → first_hash file ≡ Some section
      → looked file headers wanted ≡ looked_in file (section_at file section) wanted
  unfolding looked
  looked-at section e n = rw (e, looked) (rw (n, looked) refl)

  pub find_cost-early :
      (refusal : Refusal) → first_refusal (header_checks file ++ early_checks file headers) ≡ Some refusal
      → find_cost file headers wanted ≡ 64
  unfolding find_cost
  find_cost-early refusal e = rw (e, find_cost) refl

  pub find_cost-loaded :
      first_refusal (header_checks file ++ early_checks file headers) ≡ None
      → find_cost file headers wanted
      ≡ 76 + 64 * e_shnum file + (looked file headers wanted).compared * (28 + pad64 (length wanted + 1))
  unfolding find_cost
  find_cost-loaded e = rw (e, find_cost) refl

module _ (file : List ℕ) (at : ℕ) (wanted : List ℕ) where
  pub looked_in-refused :
      (refusal : Refusal) → first_refusal (hash_checks file at ++ shape_checks file at) ≡ Some refusal
      → looked_in file at wanted ≡ refused_after 0 refusal
  unfolding looked_in
  looked_in-refused refusal e = rw (e, looked_in) refl

  pub looked_in-passed :
      first_refusal (hash_checks file at ++ shape_checks file at) ≡ None → looked_in file at wanted ≡ looked_up file at wanted
  unfolding looked_in
  looked_in-passed e = rw (e, looked_in) refl

-- the first number that passes a test, if the ones before it do not
pub first_that-some :
    (test : ℕ → Bool) (first count i : ℕ) → first ≤ i → i < first + count → ((j : ℕ) → first ≤ j → j < i → test j ≡ false)
    → test i ≡ true → first_that test first count ≡ Some i
unfolding first_that
first_that-some test first zero i low high before here = absurd (omega arith)
first_that-some test first (suc count) i low high before here =
    elim (cases_eq first i) [
      | inl same ↦ let t : test first ≡ true = rw same here in rw (t, first_that) (ap Some same)
      | inr other ↦
          let f : test first ≡ false = before first (omega arith) (omega arith) in
          rw (f, first_that)
          (first_that-some test (suc first) count i (omega arith) (omega arith) (λ j l h. before j (omega arith) h) here)
    ]

-- no number passes it
pub first_that-none :
    (test : ℕ → Bool) (first count : ℕ) → ((j : ℕ) → first ≤ j → j < first + count → test j ≡ false)
    → first_that test first count ≡ None
unfolding first_that
first_that-none test first zero before = refl
first_that-none test first (suc count) before =
    let f : test first ≡ false = before first (omega arith) (omega arith) in
    rw (f, first_that) (first_that-none test (suc first) count (λ j l h. before j (omega arith) (omega arith)))

-- a search that finds something finds what it searches for
pub first_that-holds : (test : ℕ → Bool) (first count i : ℕ) → first_that test first count ≡ Some i → (test i ≡ true) × (first ≤ i) × (i < first + count)
unfolding first_that
first_that-holds test first zero i h = cc
first_that-holds test first (suc count) i h = by_test (first_that-holds test (suc first) count i) (test first) refl h
  where
    by_test : (first_that test (suc first) count ≡ Some i → (test i ≡ true) × (suc first ≤ i) × (i < suc first + count)) → (passes : Bool) → test first ≡ passes
        → (elim passes as (λ _. Option ℕ) [ true ↦ Some first | false ↦ first_that test (suc first) count ]) ≡ Some i
        → (test i ≡ true) × (first ≤ i) × (i < first + suc count)
    by_test more true t h = let same : first ≡ i = cc in (rw (← same) t, omega arith, omega arith)
    by_test more false t h = let f = more h in (f.0, omega (arith, f.1), omega (arith, f.2))
