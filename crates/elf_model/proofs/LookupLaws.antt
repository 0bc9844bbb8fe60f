-- Lookups: what is computed is the only lookup.
use Rattle.std.proofs.Common.{◌≡◌, ℕ, zero, suc, ◌<◌, ◌≤◌, ◌⊎◌, inl, inr, Bool, true, false, List, [], ◌∷◌, ◌++◌, length, drop, nat_lt, ◌==◌, Option, None, Some, Result, Ok, Err, refl, sym, ap, ◌∙◌, arith}
use Rattle.std.proofs.lemmas.Bool.{cases_eq, cases_lt, cases_Bool, and_parts, ltb-true}
use Rattle.elf_model.specs.Prelude.{Absent, ChainEnd, ComparedWithinChains, CycleExactly, CycleIsEndless, Found, IsEndless, IsFirst, IsLookup, Lookup, LookupAnswers, LookupEnd, LookupIsBounded, LookupIsOne, Nameless, NoIndex, Outcome, Wanted, begins, cycle, end_at_word, end_of_name, is_empty_at_zero, is_index, linked_at, looked_up, lookup_at, lookup_by, lookup_end, lookup_word, nchain, same, same_symbol}
use Rattle.elf_model.specs.declared.causes.Cause.{Cause}
use Rattle.elf_model.specs.declared.causes.Cause.TheVariants.{HashCycle, NoHash}
use Rattle.elf_model.specs.Hash.{Refused}
use Rattle.elf_model.proofs.WalkLaws.{long_walk_never_ends, searched_endless, searched_first, gives_one, not_both}

module _ (file : List ℕ) (at : ℕ) (wanted : List ℕ) where
  -- a word other than 0 that is no index
  not_an_index : (index : ℕ) → is_index file at (suc index) ≡ false → end_at_word file at wanted (suc index) ≡ Some NoIndex
  unfolding end_at_word
  not_an_index index t = rw (t, end_at_word) refl

  goes_on_above : (word : ℕ) → end_at_word file at wanted word ≡ None → 0 < word
  unfolding end_at_word
  goes_on_above zero e = absurd (cc)
  goes_on_above (suc index) e = omega arith

  goes_on_below : (word : ℕ) → end_at_word file at wanted word ≡ None → word < nchain file at
  unfolding end_at_word
  goes_on_below zero e = absurd (cc)
  goes_on_below (suc index) e =
      elim (cases_Bool (is_index file at (suc index))) [
        | inl is ↦ ltb-true (suc index) (nchain file at) (and_parts _ _ is).0
        | inr isnt ↦ absurd (not_both _ NoIndex (not_an_index index isnt) e)
      ]

pub lookup_is_bounded : LookupIsBounded
lookup_is_bounded file at wanted =
    record { above = goes_on_above file at wanted; below = goes_on_below file at wanted }

pub cycle_is_endless : CycleIsEndless
cycle_is_endless file at wanted some goes =
    long_walk_never_ends _ _ _ (nchain file at) (lookup_is_bounded file at wanted) some goes

module _ (file : List ℕ) (at : ℕ) (wanted : List ℕ) where
  -- it ends at none of the words examined: it never ends
  pub endless_where :
      lookup_end file at wanted (suc (nchain file at)) ≡ None → IsEndless (end_at_word file at wanted) (lookup_word file at wanted)
  unfolding lookup_end
  endless_where e = searched_endless _ _ _ (nchain file at) (lookup_is_bounded file at wanted) e

  -- it ends at one of them: it is the first
  pub first_where :
      (i : ℕ) (end : LookupEnd) → lookup_end file at wanted (suc (nchain file at)) ≡ Some (i, end)
      → IsFirst (end_at_word file at wanted) (lookup_word file at wanted) i end
  unfolding lookup_end
  first_where i end e = searched_first _ _ _ (nchain file at) i end e

  -- the result of the search for the end
  answered :
      (end : Option (ℕ × LookupEnd)) → lookup_end file at wanted (suc (nchain file at)) ≡ end
      → IsLookup file at wanted (lookup_by file at wanted end)
  answered None e = inr (record { endless = endless_where e; gives = refl })
  answered (Some found) e = inl (record { number = found.0; end = found.1; first = first_where found.0 found.1 e; gives = refl })

pub lookup_answers : LookupAnswers
unfolding looked_up
lookup_answers file at wanted = answered file at wanted _ refl

pub lookup_is_one : LookupIsOne
lookup_is_one file at wanted first second (inl a) (inl b) =
    a.gives ∙ gives_one _ _ (lookup_at file at wanted) a.number b.number a.end b.end a.first b.first ∙ sym b.gives
lookup_is_one file at wanted first second (inl a) (inr b) =
    absurd (not_both _ a.end a.first.here (b.endless a.number))
lookup_is_one file at wanted first second (inr a) (inl b) =
    absurd (not_both _ b.end b.first.here (a.endless b.number))
lookup_is_one file at wanted first second (inr a) (inr b) = a.gives ∙ sym b.gives

module _ (file : List ℕ) (at : ℕ) (wanted : List ℕ) where
  -- at most one symbol more is compared than words are skipped
  compared_le : (i : ℕ) (end : LookupEnd) → (lookup_at file at wanted i end).compared ≤ suc i
  unfolding lookup_at
  compared_le i ChainEnd = omega arith
  compared_le i NoIndex = omega arith
  compared_le i (Nameless cause) = omega arith
  compared_le i Wanted = omega arith

  -- no symbol is compared at a word that is no index
  compared_nothing : (end : LookupEnd) → (end ≡ ChainEnd) ⊎ (end ≡ NoIndex) → (lookup_at file at wanted 0 end).compared ≡ 0
  unfolding lookup_at
  compared_nothing end (inl e) = rw (e, lookup_at) refl
  compared_nothing end (inr e) = rw (e, lookup_at) refl

  -- without chains no word is an index
  no_chain : (word : ℕ) (end : LookupEnd) → nchain file at ≡ 0 → end_at_word file at wanted word ≡ Some end → (end ≡ ChainEnd) ⊎ (end ≡ NoIndex)
  unfolding end_at_word
  no_chain zero end none e = inl (cc)
  no_chain (suc index) end none e =
      elim (cases_Bool (is_index file at (suc index))) [
        | inl is ↦ let low = ltb-true (suc index) (nchain file at) (and_parts _ _ is).0 in absurd (omega arith)
        | inr isnt ↦ let n = not_an_index file at wanted index isnt in inr (cc)
      ]

  compared_at_start :
      (i : ℕ) (end : LookupEnd) → i ≡ 0 → nchain file at ≡ 0 → end_at_word file at wanted (lookup_word file at wanted i) ≡ Some end
      → (lookup_at file at wanted i end).compared ≤ nchain file at
  compared_at_start i end start none here =
      let nothing = compared_nothing end (no_chain (lookup_word file at wanted i) end none here) in
      rw (start, nothing) (omega arith)

  compared_where :
      (end : Option (ℕ × LookupEnd)) → lookup_end file at wanted (suc (nchain file at)) ≡ end
      → (lookup_by file at wanted end).compared ≤ nchain file at
  compared_where None e = omega arith
  compared_where (Some found) e =
      let first = first_where file at wanted found.0 found.1 e in
      let most = compared_le found.0 found.1 in
      elim (cases_lt found.0 (nchain file at)) [
        | inl early ↦ omega arith
        | inr late ↦ elim (cases_eq (nchain file at) 0) [
          | inl none ↦ elim (cases_eq found.0 0) [
            | inl start ↦ compared_at_start found.0 found.1 start none first.here
            | inr later ↦
                let low = goes_on_below file at wanted (lookup_word file at wanted 0) (first.none_before 0 (omega arith)) in
                absurd (omega arith)
          ]
          | inr some ↦
              let endless = cycle_is_endless file at wanted (omega arith) (λ k low. first.none_before k (omega arith)) in
              absurd (not_both _ found.1 first.here (endless found.0))
        ]
      ]

pub compared_within_chains : ComparedWithinChains
unfolding looked_up
compared_within_chains file at wanted = compared_where file at wanted _ refl

-- no name comparison is refused as a cycle
begins_no_cycle : (bytes wanted : List ℕ) → begins bytes wanted ≡ Err HashCycle → ⊥
unfolding begins
begins_no_cycle bytes [] e = cc
begins_no_cycle [] (w ∷ wanted) e = cc
begins_no_cycle (b ∷ bytes) (w ∷ wanted) e =
    elim (cases_Bool (b == w)) [
      | inl t ↦
          let on : begins (b ∷ bytes) (w ∷ wanted) ≡ begins bytes wanted = rw (t, begins) refl in
          begins_no_cycle bytes wanted (sym on ∙ e)
      | inr f ↦
          let stop : begins (b ∷ bytes) (w ∷ wanted) ≡ Ok false = rw (f, begins) refl in
          cc
    ]

same_no_cycle : (table : List ℕ) (index : ℕ) (wanted : List ℕ) → same table index wanted ≡ Err HashCycle → ⊥
unfolding same
same_no_cycle table index wanted e =
    elim (cases_Bool (is_empty_at_zero table index)) [
      | inl t ↦ let a = rw (t, same) at e in cc
      | inr f ↦ elim (cases_Bool (nat_lt index (length table))) [
        | inl t ↦ begins_no_cycle (drop index table) (wanted ++ 0 ∷ []) (rw (f, t, same) at e)
        | inr g ↦ let a = rw (f, g, same) at e in cc
      ]
    ]

-- the cause of a refusal; for any other outcome a cause other than the cycle's
cause_of : Outcome → Cause
cause_of (Found section index symbol) = NoHash
cause_of Absent = NoHash
cause_of (Refused refusal) = refusal.cause

end_of_name-fault : (equal : Result Bool Cause) (cause : Cause) → end_of_name equal ≡ Some (Nameless cause) → equal ≡ Err cause
end_of_name-fault (Err other) cause e = cc
end_of_name-fault (Ok true) cause e = absurd (cc)
end_of_name-fault (Ok false) cause e = absurd (cc)

module _ (file : List ℕ) (at : ℕ) (wanted : List ℕ) where
  end_no_cycle : (word : ℕ) → end_at_word file at wanted word ≡ Some (Nameless HashCycle) → ⊥
  unfolding end_at_word same_symbol
  end_no_cycle zero e = cc
  end_no_cycle (suc index) e =
      elim (cases_Bool (is_index file at (suc index))) [
        | inl is ↦
            let here : end_at_word file at wanted (suc index)
            ≡ end_of_name (same_symbol file (linked_at file at) wanted (suc index)) = rw (is, end_at_word) refl in
            same_no_cycle _ _ _ (end_of_name-fault (same_symbol file (linked_at file at) wanted (suc index)) HashCycle (sym here ∙ e))
        | inr isnt ↦ let n = not_an_index file at wanted index isnt in cc
      ]

  at_no_cycle :
      (i : ℕ) (end : LookupEnd) → (end ≡ Nameless HashCycle → ⊥)
      → (lookup_at file at wanted i end).answer ≡ (cycle file at wanted).answer → ⊥
  unfolding lookup_at cause_of
  at_no_cycle i ChainEnd other e = cc
  at_no_cycle i NoIndex other e = let c = ap cause_of e in cc
  at_no_cycle i (Nameless cause) other e = other (ap Nameless (ap cause_of e))
  at_no_cycle i Wanted other e = cc

  cycle_never_ends :
      (looked_up file at wanted).answer ≡ (cycle file at wanted).answer
      → IsLookup file at wanted (looked_up file at wanted)
      → IsEndless (end_at_word file at wanted) (lookup_word file at wanted)
  cycle_never_ends e (inl a) =
      absurd (at_no_cycle a.number a.end
      (λ is. end_no_cycle (lookup_word file at wanted a.number) (a.first.here ∙ ap Some is))
      (sym (ap (λ (l : Lookup). l.answer) a.gives) ∙ e))
  cycle_never_ends e (inr b) = b.endless

pub cycle_exactly : CycleExactly
cycle_exactly file at wanted = (
  λ e. cycle_never_ends file at wanted e (lookup_answers file at wanted),
  λ endless. lookup_is_one file at wanted (looked_up file at wanted) (cycle file at wanted)
      (lookup_answers file at wanted) (inr (record { endless = endless; gives = refl })),
)

-- The result of a lookup by the first word at which it ends.
module _ (file : List ℕ) (at : ℕ) (wanted : List ℕ) where
  pub ends_with :
      (number : ℕ) (end : LookupEnd) → IsFirst (end_at_word file at wanted) (lookup_word file at wanted) number end
      → looked_up file at wanted ≡ lookup_at file at wanted number end
  ends_with number end first =
      lookup_is_one file at wanted (looked_up file at wanted) (lookup_at file at wanted number end)
      (lookup_answers file at wanted) (inl (record { number = number; end = end; first = first; gives = refl }))

  pub endless_is_cycle :
      IsEndless (end_at_word file at wanted) (lookup_word file at wanted) → looked_up file at wanted ≡ cycle file at wanted
  endless_is_cycle endless = (cycle_exactly file at wanted).1 endless
