-- The rest of a lookup: how it goes on from a word, by what it finds there.
use Rattle.std.proofs.Common.{◌≡◌, ℕ, zero, suc, ◌+◌, ◌<◌, ◌≤◌, Bool, true, false, List, None, Some, Result, Ok, Err, refl, sym, ap, ◌∙◌, arith}
use Rattle.std.proofs.lemmas.Bool.{and_parts, ltb-true}
use Rattle.elf_model.specs.Prelude.{Absent, ChainEnd, Found, GoesOn, Lookup, Nameless, NoIndex, Wanted, bucket_of, chain_at, cycle, end_among, end_at_word, end_of_name, field, is_index, linked_at, looked_up, lookup_at, lookup_by, lookup_end, lookup_word, nchain, next_in_chain, refused_after, same_symbol, sh_link, symbol_at, walk_word, word_at}
use Rattle.elf_model.specs.declared.causes.Cause.{Cause}
use Rattle.elf_model.specs.declared.causes.Cause.TheVariants.{HashIndex}
use Rattle.elf_model.proofs.LookupLaws.{cycle_is_endless}
use Rattle.elf_model.proofs.LookupSteps.{goes_on_more}
use Rattle.elf_model.proofs.WalkLaws.{found_here, passed_over}

-- an index is below the number of chains
is_low : (file : List ℕ) (at word : ℕ) → is_index file at word ≡ true → 0 < nchain file at
is_low file at word is = let low = ltb-true word (nchain file at) (and_parts _ _ is).0 in omega (arith, low)

module _ (file : List ℕ) (at : ℕ) (wanted : List ℕ) where
  -- at a word after this many steps: the chain's end, no index, or going on
  abbrev pub by_word : ℕ → ℕ → ℕ → Lookup → Lookup
  by_word steps place zero on = record { answer = Absent; compared = steps }
  by_word steps place (suc k) on = elim (is_index file at (suc k)) [ true ↦ on | false ↦ refused_after steps (record { at = place; cause = HashIndex }) ]

  -- at the name of a symbol: the wanted one, one that can't be compared, or going on
  abbrev pub by_name : ℕ → ℕ → Result Bool Cause → Lookup → Lookup
  by_name steps word (Ok true) on = record { answer = Found (sh_link file at) word (symbol_at file (linked_at file at) word); compared = suc steps }
  by_name steps word (Ok false) on = on
  by_name steps word (Err cause) on = refused_after (suc steps) (record { at = symbol_at file (linked_at file at) word; cause = cause })

  -- the result of a lookup at a word after this many steps, with this many left
  unfoldable pub rest : ℕ → ℕ → ℕ → ℕ → Lookup
  rest zero steps word place = by_word steps place word (cycle file at wanted)
  rest (suc left) steps word place =
      by_word steps place word
      (by_name steps word (same_symbol file (linked_at file at) wanted word) (rest left (suc steps) (next_in_chain file at word) (chain_at file at word)))

  -- the chain's end, no index, or a symbol
  word_is :
      (n steps word : ℕ) (on : Lookup) → word ≡ lookup_word file at wanted steps
      → (0 < word → is_index file at word ≡ true → lookup_by file at wanted (end_among (end_at_word file at wanted) (next_in_chain file at) word steps (suc n)) ≡ on)
      → lookup_by file at wanted (end_among (end_at_word file at wanted) (next_in_chain file at) word steps (suc n)) ≡ by_word steps (word_at file at wanted steps) word on
  unfolding end_at_word lookup_at
  word_is n steps zero on e goes = ap (lookup_by file at wanted) (found_here _ _ zero steps n ChainEnd refl)
  word_is n steps (suc k) on e goes = by_cases (is_index file at (suc k)) refl
    where
      by_cases : (b : Bool) → is_index file at (suc k) ≡ b
          → lookup_by file at wanted (end_among (end_at_word file at wanted) (next_in_chain file at) (suc k) steps (suc n)) ≡ by_word steps (word_at file at wanted steps) (suc k) on
      by_cases true is = rw (is, by_word) (goes (omega arith) is)
      by_cases false isnt =
          let none : end_at_word file at wanted (suc k) ≡ Some NoIndex = rw (isnt, end_at_word) refl in
          rw (isnt, by_word) (ap (lookup_by file at wanted) (found_here _ _ (suc k) steps n NoIndex none))

  -- a symbol ends the walk by its name
  end_of_index :
      (word : ℕ) → 0 < word → is_index file at word ≡ true → end_at_word file at wanted word ≡ end_of_name (same_symbol file (linked_at file at) wanted word)
  unfolding end_at_word
  end_of_index zero some is = absurd (omega arith)
  end_of_index (suc word) some is = rw (is, end_at_word) refl

  name_is :
      (n steps word : ℕ) (on : Lookup) (equal : Result Bool Cause) → word ≡ lookup_word file at wanted steps
      → end_at_word file at wanted word ≡ end_of_name equal
      → (end_at_word file at wanted word ≡ None → lookup_by file at wanted (end_among (end_at_word file at wanted) (next_in_chain file at) (next_in_chain file at word) (suc steps) n) ≡ on)
      → lookup_by file at wanted (end_among (end_at_word file at wanted) (next_in_chain file at) word steps (suc n)) ≡ by_name steps word equal on
  unfolding lookup_at
  name_is n steps word on (Ok true) e ends goes = ap (lookup_by file at wanted) (found_here _ _ word steps n Wanted ends) ∙ rw e refl
  name_is n steps word on (Ok false) e ends goes = ap (lookup_by file at wanted) (passed_over _ _ word steps n ends) ∙ goes ends
  name_is n steps word on (Err cause) e ends goes = ap (lookup_by file at wanted) (found_here _ _ word steps n (Nameless cause) ends) ∙ rw e refl

  -- THE LAW: the rest of a walk that goes on for this many words is what the computation has left
  rest_is :
      (left steps word : ℕ) → left + steps ≡ nchain file at → GoesOn (end_at_word file at wanted) (lookup_word file at wanted) steps
      → word ≡ lookup_word file at wanted steps
      → lookup_by file at wanted (end_among (end_at_word file at wanted) (next_in_chain file at) word steps (suc left)) ≡ rest left steps word (word_at file at wanted steps)
  unfolding rest end_among walk_word word_at
  rest_is zero steps word counts goes e =
      word_is zero steps word (cycle file at wanted) e
      (λ some is.
      let low : 0 < nchain file at = is_low file at word is in
      let endless = cycle_is_endless file at wanted low (λ i few. goes i (omega arith)) in
      ap (lookup_by file at wanted) (passed_over (end_at_word file at wanted) (next_in_chain file at) word steps zero (ap (end_at_word file at wanted) e ∙ endless steps)))
  rest_is (suc left) steps word counts goes e =
      word_is (suc left) steps word _ e
      (λ some is.
      name_is (suc left) steps word _ (same_symbol file (linked_at file at) wanted word) e (end_of_index word some is)
      (λ on. rw e (rest_is left (suc steps) (next_in_chain file at (lookup_word file at wanted steps)) (omega arith) (goes_on_more (end_at_word file at wanted) (lookup_word file at wanted) steps goes (ap (end_at_word file at wanted) (sym e) ∙ on)) refl)))

  pub looked_is : looked_up file at wanted ≡ rest (nchain file at) 0 (field file (bucket_of file at wanted) 4) (bucket_of file at wanted)
  unfolding looked_up lookup_end walk_word word_at
  looked_is = rest_is (nchain file at) 0 _ (omega arith) (λ i low. absurd (omega arith)) refl

  -- what is left at each word
  pub rest_absent : (left steps place : ℕ) → rest left steps 0 place ≡ record { answer = Absent; compared = steps }
  unfolding rest
  rest_absent zero steps place = refl
  rest_absent (suc left) steps place = refl

  pub rest_no_index :
      (left steps word place : ℕ) → 0 < word → is_index file at word ≡ false
      → rest left steps word place ≡ refused_after steps (record { at = place; cause = HashIndex })
  unfolding rest
  rest_no_index left steps zero place some isnt = absurd (omega arith)
  rest_no_index zero steps (suc k) place some isnt = rw (isnt, by_word) refl
  rest_no_index (suc left) steps (suc k) place some isnt = rw (isnt, by_word) refl

  pub rest_cycle : (steps word place : ℕ) → 0 < word → is_index file at word ≡ true → rest 0 steps word place ≡ cycle file at wanted
  unfolding rest
  rest_cycle steps zero place some is = absurd (omega arith)
  rest_cycle steps (suc k) place some is = rw (is, by_word) refl

  pub rest_name :
      (left steps word place : ℕ) → 0 < word → is_index file at word ≡ true
      → rest (suc left) steps word place
      ≡ by_name steps word (same_symbol file (linked_at file at) wanted word) (rest left (suc steps) (next_in_chain file at word) (chain_at file at word))
  unfolding rest
  rest_name left steps zero place some is = absurd (omega arith)
  rest_name left steps (suc k) place some is = rw (is, by_word) refl

  -- no fewer names are compared than steps were taken
  by_word_most : (steps place word : ℕ) (on : Lookup) → steps ≤ on.compared → steps ≤ (by_word steps place word on).compared
  by_word_most steps place zero on few = omega arith
  by_word_most steps place (suc k) on few = by_cases (is_index file at (suc k)) refl
    where
      by_cases : (b : Bool) → is_index file at (suc k) ≡ b → steps ≤ (by_word steps place (suc k) on).compared
      by_cases true is = rw (is, by_word) few
      by_cases false isnt = rw (isnt, by_word) (omega arith)

  pub by_name_most : (steps word : ℕ) (equal : Result Bool Cause) (on : Lookup) → suc steps ≤ on.compared → suc steps ≤ (by_name steps word equal on).compared
  by_name_most steps word (Ok true) on few = omega arith
  by_name_most steps word (Ok false) on few = few
  by_name_most steps word (Err cause) on few = omega arith

  pub rest_most : (left steps word place : ℕ) → steps + left ≡ nchain file at → steps ≤ (rest left steps word place).compared
  unfolding rest
  rest_most zero steps word place few = by_word_most steps place word (cycle file at wanted) (omega arith)
  rest_most (suc left) steps word place few =
      let on : Lookup = rest left (suc steps) (next_in_chain file at word) (chain_at file at word) in
      by_word_most steps place word (by_name steps word (same_symbol file (linked_at file at) wanted word) on)
      (let more = by_name_most steps word (same_symbol file (linked_at file at) wanted word) on (rest_most left (suc steps) (next_in_chain file at word) (chain_at file at word) (omega arith)) in omega (arith, more))
