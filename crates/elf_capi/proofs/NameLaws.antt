-- Names whose rows may be selected, one by one.
use Rattle.std.proofs.Common.{◌≡◌, ℕ, ◌+◌, ◌-◌, ◌<◌, ◌≤◌, Bool, true, false, not, List, [], ◌∷◌, MatchBool, length, get_or, inl, inr, is_lt, nat_cmp, refl, sym, ap, subst, ◌∙◌, arith}
use Rattle.std.specs.Borrow.{Bor}
use Rattle.std.specs.Cmp.Lexicographic.{slice_cmp}
use Rattle.std.proofs.lemmas.Bool.{cases_lt}
use Rattle.elf_options.specs.NameLists.{IsRowName}
use Rattle.elf_capi.specs.Asked.{BorrowedTexts, AreLendableNames, IsLendableNameAt}

some_name : (names : BorrowedTexts) → 0 < length names → Bor (List ℕ)
some_name [] within = absurd (omega (arith, within))
some_name (name ∷ names) within = name

module _ (versions : Bool) (names : BorrowedTexts) where
  -- a name that cannot be looked up is not allowed
  pub no_name_stands : (i : ℕ) (name : List ℕ) → i < length names → ((d : Bor (List ℕ)) → name ≡ (get_or names i d).now) → (IsRowName versions name → ⊥) → IsLendableNameAt versions names i → ⊥
  no_name_stands i name within is none stand =
      let d = some_name names (omega (arith, within)) in
      none (subst (IsRowName versions) (sym (is d)) (stand.0 d))

  module _ (i : ℕ) (name other : List ℕ) (within : i < length names) (some : 0 < i) (is : (d : Bor (List ℕ)) → name ≡ (get_or names i d).now) (was : (d : Bor (List ℕ)) → other ≡ (get_or names (i - 1) d).now) where
    compared : (j : ℕ) (d : Bor (List ℕ)) → j + 1 ≡ i → is_lt (slice_cmp nat_cmp name other) ≡ is_lt (slice_cmp nat_cmp (get_or names i d).now (get_or names j d).now)
    compared j d next =
        subst (λ m. is_lt (slice_cmp nat_cmp name other) ≡ is_lt (slice_cmp nat_cmp (get_or names i d).now (get_or names m d).now)) {x = i - 1} (omega (arith, next))
        (ap (λ (t : List ℕ). is_lt (slice_cmp nat_cmp t other)) (is d) ∙ ap (λ (t : List ℕ). is_lt (slice_cmp nat_cmp (get_or names i d).now t)) (was d))

    -- one that can is allowed if it is not below the one before it
    pub stands_by : (below : Bool) → below ≡ is_lt (slice_cmp nat_cmp name other) → IsRowName versions name → MatchBool (not below) (IsLendableNameAt versions names i) (IsLendableNameAt versions names i → ⊥)
    stands_by true lower row = λ stand.
        let d = some_name names (omega (arith, within)) in
        let falls : true ≡ false = lower ∙ compared (i - 1) d (omega (arith, some)) ∙ stand.1 (i - 1) d (omega (arith, some)) in
        absurd (cc)
    stands_by false lower row = (λ d. subst (IsRowName versions) (is d) row, λ j d next. sym (lower ∙ compared j d next))

module _ (versions : Bool) (names : BorrowedTexts) where
  -- one more
  pub stand_more : (n : ℕ) → ((k : ℕ) → k < n → IsLendableNameAt versions names k) → IsLendableNameAt versions names n → (k : ℕ) → k < n + 1 → IsLendableNameAt versions names k
  stand_more n before here k within = elim (cases_lt k n) [
    | inl inside ↦ before k inside
    | inr top ↦ subst (λ m. IsLendableNameAt versions names m) {x = n} (omega (arith, top, within)) here
  ]

  -- all
  pub all_stand : (n : ℕ) → ((k : ℕ) → k < n → IsLendableNameAt versions names k) → length names ≤ n → AreLendableNames versions names
  all_stand n stand past = (
    λ k d low within. (stand (k + 1) (omega (arith, past, within))).1 k d refl,
    λ k d within. (stand k (omega (arith, past, within))).0 d,
  )

  -- and each of them
  pub each_stands : (i : ℕ) → i < length names → AreLendableNames versions names → IsLendableNameAt versions names i
  each_stands i within may = (
    λ d. may.1 i d within,
    λ j d next.
        subst (λ m. is_lt (slice_cmp nat_cmp (get_or names m d).now (get_or names j d).now) ≡ false) next (may.0 j d (omega arith) (omega (arith, next, within))),
  )
