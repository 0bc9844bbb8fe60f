-- The first segment that is writable and executable, one after another.
use Rattle.std.proofs.Common.{◌≡◌, ℕ, suc, ◌+◌, ◌-◌, ◌<◌, ◌≤◌, true, false, List, None, Some, refl, ap, ◌∙◌, arith}
use Rattle.elf_model.specs.Prelude.{e_phnum, first_that, is_writable_code}

module _ (file : List ℕ) (index : ℕ) where
  here : (n : ℕ) → is_writable_code file index ≡ true → first_that (is_writable_code file) index (suc n) ≡ Some index
  unfolding first_that
  here n t = rw (t, first_that) refl

  more : (n : ℕ) → is_writable_code file index ≡ false → first_that (is_writable_code file) index (suc n) ≡ first_that (is_writable_code file) (suc index) n
  unfolding first_that
  more n t = rw (t, first_that) refl

  none : first_that (is_writable_code file) index 0 ≡ None
  unfolding first_that
  none = refl

  pub writable_here : index < e_phnum file → is_writable_code file index ≡ true → first_that (is_writable_code file) index (e_phnum file - index) ≡ Some index
  writable_here below t =
      let left : e_phnum file - index ≡ suc (e_phnum file - suc index) = omega arith in
      ap (first_that (is_writable_code file) index) left ∙ here (e_phnum file - suc index) t

  pub writable_more : (next : ℕ) → next ≡ index + 1 → index < e_phnum file → is_writable_code file index ≡ false
      → first_that (is_writable_code file) index (e_phnum file - index) ≡ first_that (is_writable_code file) next (e_phnum file - next)
  writable_more next on below t =
      let left : e_phnum file - index ≡ suc (e_phnum file - suc index) = omega arith in
      let same : suc index ≡ next = omega (arith, on) in
      ap (first_that (is_writable_code file) index) left ∙ (more (e_phnum file - suc index) t ∙ ap (λ (n : ℕ). first_that (is_writable_code file) n (e_phnum file - n)) same)

  pub writable_none : e_phnum file ≤ index → first_that (is_writable_code file) index (e_phnum file - index) ≡ None
  writable_none behind =
      let left : e_phnum file - index ≡ 0 = omega arith in
      ap (first_that (is_writable_code file) index) left ∙ none
