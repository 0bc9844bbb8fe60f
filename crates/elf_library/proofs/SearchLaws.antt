-- The search among the entries of a cache, one entry after another.
use Rattle.std.proofs.Common.{◌≡◌, ℕ, zero, suc, ◌+◌, ◌-◌, ◌/◌, ◌<◌, ◌≤◌, true, false, List, None, Some, Option, refl, sym, ap, ◌∙◌, arith}
use Rattle.std.specs.declared.cmp.Ordering.{Ordering}
use Rattle.std.specs.declared.cmp.Ordering.TheVariants.{Less, Equal, Greater}
use Rattle.elf_model.specs.LoaderCache.{LoaderCache, is_same_name}
use Rattle.elf_model.specs.Prelude.{bisected, first_path, first_same, path_of_entry}

module _ (order : ℕ → Option Ordering) where
  same-suc : (i : ℕ) → is_same_name (order i) ≡ true → first_same order (suc i) ≡ first_same order i
  unfolding first_same
  same-suc i same = rw (same, first_same) refl

  other-suc : (i : ℕ) → is_same_name (order i) ≡ false → first_same order (suc i) ≡ suc i
  unfolding first_same
  other-suc i other = rw (other, first_same) refl

  -- THE LAW: the entry before has the name, or not
  pub same-more : (first : ℕ) → 0 < first → is_same_name (order (first - 1)) ≡ true → first_same order first ≡ first_same order (first - 1)
  same-more zero some same = absurd (omega (arith, some))
  same-more (suc i) some same = let e : suc i - 1 ≡ i = omega arith in rw (e) (same-suc i (ap (λ (k : ℕ). is_same_name (order k)) (sym e) ∙ same))

  pub same-ends : (first : ℕ) → 0 < first → is_same_name (order (first - 1)) ≡ false → first_same order first ≡ first
  same-ends zero some other = absurd (omega (arith, some))
  same-ends (suc i) some other = let e : suc i - 1 ≡ i = omega arith in other-suc i (ap (λ (k : ℕ). is_same_name (order k)) (sym e) ∙ other)

  pub same-first : first_same order 0 ≡ 0
  unfolding first_same
  same-first = refl

  -- THE LAW: one step of a bisection
  pub bisected-none : (steps low high : ℕ) → high ≤ low → bisected order steps low high ≡ None
  unfolding bisected
  bisected-none zero low high past = refl
  bisected-none (suc steps) low high past = grind arith

  bisected-open : (steps low high : ℕ) → low < high
      → bisected order (suc steps) low high ≡ (elim (order ((low + high - 1) / 2)) [
        | None ↦ None
        | Some Less ↦ bisected order steps (suc ((low + high - 1) / 2)) high
        | Some Equal ↦ Some ((low + high - 1) / 2, high)
        | Some Greater ↦ bisected order steps low ((low + high - 1) / 2)
      ])
  unfolding bisected
  bisected-open steps low high some = grind arith

  pub bisected-outside : (steps low high : ℕ) → 0 < steps → low < high → order ((low + high - 1) / 2) ≡ None → bisected order steps low high ≡ None
  bisected-outside zero low high more some is = absurd (omega (arith, more))
  bisected-outside (suc steps) low high more some is = bisected-open steps low high some ∙ rw (is) refl

  pub bisected-equal : (steps low high : ℕ) → 0 < steps → low < high → order ((low + high - 1) / 2) ≡ Some Equal → bisected order steps low high ≡ Some ((low + high - 1) / 2, high)
  bisected-equal zero low high more some is = absurd (omega (arith, more))
  bisected-equal (suc steps) low high more some is = bisected-open steps low high some ∙ rw (is) refl

  pub bisected-less : (steps low high : ℕ) → 0 < steps → low < high → order ((low + high - 1) / 2) ≡ Some Less
      → bisected order steps low high ≡ bisected order (steps - 1) ((low + high - 1) / 2 + 1) high
  bisected-less zero low high more some is = absurd (omega (arith, more))
  bisected-less (suc steps) low high more some is =
      let e : suc steps - 1 ≡ steps = omega arith in
      let f : (low + high - 1) / 2 + 1 ≡ suc ((low + high - 1) / 2) = omega arith in
      rw (e, f) (bisected-open steps low high some ∙ rw (is) refl)

  pub bisected-greater : (steps low high : ℕ) → 0 < steps → low < high → order ((low + high - 1) / 2) ≡ Some Greater
      → bisected order steps low high ≡ bisected order (steps - 1) low ((low + high - 1) / 2)
  bisected-greater zero low high more some is = absurd (omega (arith, more))
  bisected-greater (suc steps) low high more some is =
      let e : suc steps - 1 ≡ steps = omega arith in
      rw (e) (bisected-open steps low high some ∙ rw (is) refl)

  pub bisected-ends : (low high : ℕ) → bisected order 0 low high ≡ None
  unfolding bisected
  bisected-ends low high = refl

  -- THE LAW: one entry of those with the name after another
  module _ (file : List ℕ) (cache : LoaderCache) where
    path-suc : (i n : ℕ) → first_path file cache order i (suc n) ≡ (elim (is_same_name (order i)) [
      | false ↦ None
      | true ↦ elim (path_of_entry file cache i) [
        | Some path ↦ Some path
        | None ↦ first_path file cache order (suc i) n
      ]
    ])
    unfolding first_path
    path-suc i n = refl

    pub path-ends : (i : ℕ) → first_path file cache order i 0 ≡ None
    unfolding first_path
    path-ends i = refl

    pub path-other : (i n : ℕ) → 0 < n → is_same_name (order i) ≡ false → first_path file cache order i n ≡ None
    path-other i zero more other = absurd (omega (arith, more))
    path-other i (suc n) more other = path-suc i n ∙ rw (other) refl

    pub path-found : (i n : ℕ) (path : List ℕ) → 0 < n → is_same_name (order i) ≡ true → path_of_entry file cache i ≡ Some path → first_path file cache order i n ≡ Some path
    path-found i zero path more same is = absurd (omega (arith, more))
    path-found i (suc n) path more same is = path-suc i n ∙ rw (same, is) refl

    pub path-more : (i n : ℕ) → 0 < n → is_same_name (order i) ≡ true → path_of_entry file cache i ≡ None → first_path file cache order i n ≡ first_path file cache order (i + 1) (n - 1)
    path-more i zero more same none = absurd (omega (arith, more))
    path-more i (suc n) more same none =
        let e : suc n - 1 ≡ n = omega arith in
        let f : i + 1 ≡ suc i = omega arith in
        rw (e, f) (path-suc i n ∙ rw (same, none) refl)
