-- Walks: a walk that reaches a word a second time never ends, and neither does one with more steps
-- than words.
use Rattle.std.proofs.Common.{◌≡◌, ℕ, zero, suc, ◌+◌, ◌-◌, ◌<◌, ◌≤◌, ◌⊎◌, inl, inr, Option, None, Some, refl, sym, ap, ◌∙◌, arith, add-suc, add-zero}
use Rattle.std.proofs.lemmas.Bool.{cases_eq, cases_lt}
use Rattle.elf_model.specs.Prelude.{GoesOn, IsBounded, IsEndless, IsFirst, LongWalkNeverEnds, LongWalkRepeats, RepeatNeverEnds, Repeats, end_among, walk_word}
use Rattle.elf_model.proofs.Pigeons.{two_are_the_same}

-- from the same word on a walk is the same
pub same_from :
    (next : ℕ → ℕ) (start i j d : ℕ) → walk_word next start i ≡ walk_word next start j
    → walk_word next start (i + d) ≡ walk_word next start (j + d)
unfolding walk_word
same_from next start i j zero e = rw (add-zero, add-zero) e
same_from next start i j (suc d) e = rw (add-suc, add-suc) (ap next (same_from next start i j d e))

module _ {E : Type 0} (ends : ℕ → Option E) (next : ℕ → ℕ) (start n : ℕ) where
  -- all words below a number go on, the later ones as at the earlier step
  goes_on_below :
      Repeats (walk_word next start) n → GoesOn ends (walk_word next start) n
      → (limit k : ℕ) → k < limit → ends (walk_word next start k) ≡ None
  goes_on_below r goes zero k low = absurd (omega arith)
  goes_on_below r goes (suc limit) k low =
      let b = r.before in
      let w = r.within in
      elim (cases_lt k r.later) [
        | inl early ↦ goes k (omega arith)
        | inr late ↦
            let past : walk_word next start (r.earlier + (k - r.later)) ≡ walk_word next start (r.later + (k - r.later))
            = same_from next start r.earlier r.later (k - r.later) r.again in
            let whole : r.later + (k - r.later) ≡ k = omega arith in
            let same : walk_word next start (r.earlier + (k - r.later)) ≡ walk_word next start k = rw whole at past in
            let before : ends (walk_word next start (r.earlier + (k - r.later))) ≡ None
            = goes_on_below r goes limit (r.earlier + (k - r.later)) (omega arith) in
            rw (← same) before
      ]

pub repeats_endless :
    {E : Type 0} (ends : ℕ → Option E) (next : ℕ → ℕ) (start n : ℕ)
    → Repeats (walk_word next start) n → GoesOn ends (walk_word next start) n → IsEndless ends (walk_word next start)
repeats_endless ends next start n r goes i = goes_on_below ends next start n r goes (suc i) i (omega arith)

pub repeat_never_ends : RepeatNeverEnds
repeat_never_ends ends next start n r goes = repeats_endless ends next start n r goes

-- a word that goes on, minus one
less_one : (ℕ → ℕ) → ℕ → ℕ
less_one words i = words i - 1

long_repeats : {E : Type 0} (ends : ℕ → Option E) (words : ℕ → ℕ) (n : ℕ) → IsBounded ends n → 0 < n → GoesOn ends words n → Repeats words n
unfolding less_one
long_repeats ends words zero bounded some goes = absurd (omega arith)
long_repeats ends words (suc n) bounded some goes =
    let r = two_are_the_same n (less_one words) (λ i within.
    let go : ends (words i) ≡ None = goes i (omega arith) in
    let a : 0 < words i = bounded.above (words i) go in
    let b : words i < suc n = bounded.below (words i) go in
    omega arith) in
    let b = r.before in
    let w = r.within in
    let one : words r.earlier - 1 ≡ words r.later - 1 = r.again in
    let above_one : 0 < words r.earlier = bounded.above (words r.earlier) (goes r.earlier (omega arith)) in
    let above_two : 0 < words r.later = bounded.above (words r.later) (goes r.later (omega arith)) in
    record { earlier = r.earlier; later = r.later; before = b; within = omega arith; again = omega arith }

pub long_walk_repeats : LongWalkRepeats
long_walk_repeats ends words n bounded some goes = long_repeats ends words n bounded some goes

pub long_endless :
    {E : Type 0} (ends : ℕ → Option E) (next : ℕ → ℕ) (start n : ℕ)
    → IsBounded ends n → 0 < n → GoesOn ends (walk_word next start) n → IsEndless ends (walk_word next start)
long_endless ends next start n bounded some goes =
    repeats_endless ends next start n (long_repeats ends (walk_word next start) n bounded some goes) goes

pub long_walk_never_ends : LongWalkNeverEnds
long_walk_never_ends ends next start n bounded some goes = long_endless ends next start n bounded some goes

-- a walk ends at a word, or goes on
pub ends_or_goes : {E : Type 0} (end : Option E) → ((e : E) × (end ≡ Some e)) ⊎ (end ≡ None)
ends_or_goes None = inr refl
ends_or_goes (Some e) = inl (e, refl)

-- it does not do both
pub not_both : {E : Type 0} (end : Option E) (e : E) → end ≡ Some e → end ≡ None → ⊥
not_both end e some none = cc

-- a word at which the walk ends is found
pub found_here :
    {E : Type 0} (ends : ℕ → Option E) (next : ℕ → ℕ) (word i n : ℕ) (end : E) → ends word ≡ Some end
    → end_among ends next word i (suc n) ≡ Some (i, end)
unfolding end_among
found_here ends next word i n end t = rw (t, end_among) refl

-- a word at which it does not is skipped
pub passed_over :
    {E : Type 0} (ends : ℕ → Option E) (next : ℕ → ℕ) (word i n : ℕ) → ends word ≡ None
    → end_among ends next word i (suc n) ≡ end_among ends next (next word) (suc i) n
unfolding end_among
passed_over ends next word i n t = rw (t, end_among) refl

module _ {E : Type 0} (ends : ℕ → Option E) (next : ℕ → ℕ) (start : ℕ) where
  -- none found: the walk goes on at all words examined
  pub none_found :
      (n i : ℕ) → end_among ends next (walk_word next start i) i n ≡ None
      → (k : ℕ) → i ≤ k → k < i + n → ends (walk_word next start k) ≡ None
  unfolding end_among walk_word
  none_found zero i e k low high = absurd (omega arith)
  none_found (suc n) i e k low high =
      elim (ends_or_goes (ends (walk_word next start i))) [
        | inl end ↦ let f = found_here ends next (walk_word next start i) i n end.0 end.1 in absurd (cc)
        | inr goes ↦ elim (cases_eq i k) [
          | inl same ↦ rw (← same) goes
          | inr other ↦ none_found n (suc i) (sym (passed_over ends next (walk_word next start i) i n goes) ∙ e) k (omega arith) (omega arith)
        ]
      ]

  -- one found: it is the first
  pub one_found :
      (n i k : ℕ) (end : E) → end_among ends next (walk_word next start i) i n ≡ Some (k, end)
      → ((j : ℕ) → j < i → ends (walk_word next start j) ≡ None)
      → IsFirst ends (walk_word next start) k end
  unfolding end_among walk_word
  one_found zero i k end e before = absurd (cc)
  one_found (suc n) i k end e before =
      elim (ends_or_goes (ends (walk_word next start i))) [
        | inl found ↦
            let f = found_here ends next (walk_word next start i) i n found.0 found.1 in
            let both : (i, found.0) ≡ (k, end) = cc in
            let same : i ≡ k = ap (λ (p : ℕ × E). p.0) both in
            let why : found.0 ≡ end = ap (λ (p : ℕ × E). p.1) both in
            record { here = rw (← same) (found.1 ∙ ap Some why); none_before = rw (← same) before }
        | inr goes ↦ one_found n (suc i) k end (sym (passed_over ends next (walk_word next start i) i n goes) ∙ e) (λ j low. elim (cases_eq j i) [
          | inl same ↦ rw same goes
          | inr other ↦ before j (omega arith)
        ])
      ]

-- A walk over words below a bound: the result of the search for its end, among one word more than
-- the bound.
module _ {E : Type 0} (ends : ℕ → Option E) (next : ℕ → ℕ) (start n : ℕ) where
  -- it ends at one of them: it is the first
  pub searched_first : (i : ℕ) (end : E) → end_among ends next start 0 (suc n) ≡ Some (i, end) → IsFirst ends (walk_word next start) i end
  unfolding walk_word
  searched_first i end e = one_found ends next start (suc n) 0 i end e (λ j low. absurd (omega arith))

  -- it ends at none: it never ends
  pub searched_endless : IsBounded ends n → end_among ends next start 0 (suc n) ≡ None → IsEndless ends (walk_word next start)
  unfolding walk_word
  searched_endless bounded e =
      let goes : GoesOn ends (walk_word next start) (suc n) = λ i h. none_found ends next start (suc n) 0 e i (omega arith) (omega arith) in
      let low = bounded.below (walk_word next start 0) (goes 0 (omega arith)) in
      long_endless ends next start n bounded (omega arith) (λ i h. goes i (omega arith))

-- A walk that ends at one word has one end.
module _ {E : Type 0} (ends : ℕ → Option E) (words : ℕ → ℕ) where
  -- there is only one first word
  pub first_is_one : (i j : ℕ) (a b : E) → IsFirst ends words i a → IsFirst ends words j b → i ≡ j
  first_is_one i j a b f g =
      elim (cases_lt i j) [
        | inl low ↦ absurd (not_both (ends (words i)) a f.here (g.none_before i low))
        | inr high ↦ elim (cases_lt j i) [
          | inl low ↦ absurd (not_both (ends (words j)) b g.here (f.none_before j low))
          | inr same ↦ omega arith
        ]
      ]

  -- which ends in one way
  pub end_is_one : (i : ℕ) (a b : E) → IsFirst ends words i a → IsFirst ends words i b → a ≡ b
  end_is_one i a b f g = let here = f.here in let there = g.here in cc

  -- so its result is unique
  pub gives_one : {X : Type 0} (gives : ℕ → E → X) (i j : ℕ) (a b : E) → IsFirst ends words i a → IsFirst ends words j b → gives i a ≡ gives j b
  gives_one gives i j a b f g =
      let e = first_is_one i j a b f g in
      let first : IsFirst ends words j a = rw (← e) f in
      rw e (ap (gives j) (end_is_one j a b first g))
