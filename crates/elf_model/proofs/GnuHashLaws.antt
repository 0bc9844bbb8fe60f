-- Lookups in a GNU hash table: what is computed is the only lookup, and it is bounded.
use Rattle.std.proofs.Common.{◌≡◌, ℕ, zero, suc, ◌+◌, ◌-◌, ◌*◌, ◌<◌, ◌≤◌, ◌⊎◌, inl, inr, Bool, true, false, not, List, nat_lt, if◌then◌else◌, Option, None, Some, Result, Ok, Err, refl, sym, ap, ◌∙◌, arith}
use Rattle.std.proofs.lemmas.Bool.{cases_eq, cases_lt, cases_Bool, and_parts, ltb-true}
use Rattle.elf_model.specs.Prelude.{Answers, ChainResult, EndsInChain, GnuAbsentMeansNone, GnuFoundAnswers, GnuFoundIsFirst, GnuLookupAnswers, GnuLookupIsBounded, GnuLookupIsOne, HashTable, IsFirst, IsFound, IsGnuLookup, IsHeld, IsWithinTable, Last, NotThere, Untried, WalkEnd, before_chains, chain_word, end_of_chain, end_of_match, gnu_end, gnu_first, gnu_looked_up, gnu_start, gnu_symbol, gnu_tried, gnu_walk_end, gnu_walked_at, gnu_walked_by, hash_bits_match, holds_none, in_chains, is_chain_end, is_chained, nothing_tried, walk_word}
use Rattle.elf_model.specs.declared.causes.Refusal.{Refusal}
use Rattle.elf_model.proofs.SumLemmas.{sum_over-le}
use Rattle.elf_model.proofs.WalkLaws.{none_found, searched_first, gives_one, not_both}

-- the words of a walk that goes from each to the next number
rises : (start i : ℕ) → walk_word (λ y. suc y) start i ≡ start + i
unfolding walk_word
rises start zero = omega arith
rises start (suc i) = omega (arith, rises start i)

by_rising : {E : Type 0} (ends : ℕ → Option E) (start i : ℕ) (e : E) → IsFirst ends (walk_word (λ y. suc y) start) i e → IsFirst ends (λ j. start + j) i e
by_rising ends start i e f = record {
  here = ap ends (sym (rises start i)) ∙ f.here;
  none_before = λ j l. ap ends (sym (rises start j)) ∙ f.none_before j l;
}

-- the result of a trial
trial_says : (r : Result Bool Refusal) → (r ≡ Ok true) ⊎ ((r ≡ Ok false) ⊎ ((e : Refusal) × (r ≡ Err e)))
trial_says (Ok true) = inl refl
trial_says (Ok false) = inr (inl refl)
trial_says (Err e) = inr (inr (e, refl))

-- a chain's end is no other end
end_of_chain-is : (word : ℕ) → ((is_chain_end word ≡ true) × (end_of_chain word ≡ Some Last)) ⊎ ((is_chain_end word ≡ false) × (end_of_chain word ≡ None))
end_of_chain-is word =
    elim (cases_Bool (is_chain_end word)) [
      | inl t ↦ inl (t, rw t refl)
      | inr f ↦ inr (f, rw f refl)
    ]

module _ (file : List ℕ) (table : HashTable) (hash : ℕ) (trial : ℕ → Result Bool Refusal) where
  end-not_there : (y : ℕ) → is_chained file table y ≡ false → gnu_end file table hash trial y ≡ Some NotThere
  unfolding gnu_end
  end-not_there y t = rw (t, gnu_end) refl

  end-passed :
      (y : ℕ) → is_chained file table y ≡ true → hash_bits_match (chain_word file table.place y) hash ≡ false
      → gnu_end file table hash trial y ≡ end_of_chain (chain_word file table.place y)
  unfolding gnu_end
  end-passed y t f = rw (t, gnu_end) (rw (f) refl)

  end-tried :
      (y : ℕ) → is_chained file table y ≡ true → hash_bits_match (chain_word file table.place y) hash ≡ true
      → gnu_end file table hash trial y ≡ end_of_match (trial y) (end_of_chain (chain_word file table.place y))
  unfolding gnu_end
  end-tried y t f = rw (t, gnu_end) (rw (f) refl)

  -- an end that means that a symbol is there
  end_is_there : (y : ℕ) (end : Option WalkEnd) → gnu_end file table hash trial y ≡ end → (end ≡ Some NotThere → ⊥) → is_chained file table y ≡ true
  end_is_there y end e other =
      elim (cases_Bool (is_chained file table y)) [
        | inl is ↦ is
        | inr isnt ↦ absurd (other (sym e ∙ end-not_there y isnt))
      ]

  goes_on_there : (y : ℕ) → gnu_end file table hash trial y ≡ None → is_chained file table y ≡ true
  goes_on_there y e = end_is_there y None e (λ n. cc)

-- the facts about a symbol index of a table
record IsThere (file : List ℕ) (table : HashTable) (y : ℕ) : Type 0 where
  from_first : gnu_first file table.place ≤ y
  below : y < table.symbols
  inside : in_chains file table.place y + 4 ≤ table.size

not_true : (a b : ℕ) → not (nat_lt a b) ≡ true → b ≤ a
not_true a b e = elim (cases_lt a b) [ inl low ↦ absurd (grind arith) | inr high ↦ high ]

is_there : (file : List ℕ) (table : HashTable) (y : ℕ) → is_chained file table y ≡ true → IsThere file table y
is_there file table y e =
    let last = and_parts _ _ e in
    let front = and_parts _ _ last.0 in
    record {
      from_first = not_true y (gnu_first file table.place) front.0;
      below = ltb-true y table.symbols front.1;
      inside = not_true table.size (in_chains file table.place y + 4) last.1;
    }

module _ (file : List ℕ) (table : HashTable) (hash : ℕ) (trial : ℕ → Result Bool Refusal) where
  -- the walk ends at one of the words examined
  ends_somewhere : gnu_walk_end file table hash trial ≡ None → ⊥
  unfolding gnu_walk_end walk_word
  ends_somewhere e =
      let start = gnu_start file table.place hash in
      let on = none_found (gnu_end file table hash trial) (λ y. suc y) start (suc table.symbols) 0 e table.symbols (omega arith) (omega arith) in
      let here = ap (gnu_end file table hash trial) (sym (rises start table.symbols)) ∙ on in
      let there = is_there file table (start + table.symbols) (goes_on_there file table hash trial (start + table.symbols) here) in
      let b = there.below in
      omega arith

  pub first_in_chain :
      (i : ℕ) (end : WalkEnd) → gnu_walk_end file table hash trial ≡ Some (i, end)
      → IsFirst (gnu_end file table hash trial) (gnu_symbol file table.place hash) i end
  unfolding gnu_walk_end
  first_in_chain i end e =
      by_rising (gnu_end file table hash trial) (gnu_start file table.place hash) i end
      (searched_first _ _ _ table.symbols i end e)

  looked_up-none : holds_none file table.place hash ≡ true → gnu_looked_up file table hash trial ≡ nothing_tried
  unfolding gnu_looked_up
  looked_up-none t = rw (t, gnu_looked_up) refl

  looked_up-walked :
      holds_none file table.place hash ≡ false
      → gnu_looked_up file table hash trial ≡ gnu_walked_by file table.place hash (gnu_walk_end file table hash trial)
  unfolding gnu_looked_up
  looked_up-walked f = rw (f, gnu_looked_up) refl

  -- the result of the search for the end
  answered :
      (end : Option (ℕ × WalkEnd)) → holds_none file table.place hash ≡ false → gnu_walk_end file table hash trial ≡ end
      → EndsInChain file table hash trial (gnu_walked_by file table.place hash end)
  answered None f e = absurd (ends_somewhere e)
  answered (Some found) f e =
      record { told = f; number = found.0; end = found.1; first = first_in_chain found.0 found.1 e; gives = refl }

  answers_by :
      (holds_none file table.place hash ≡ true) ⊎ (holds_none file table.place hash ≡ false)
      → IsGnuLookup file table hash trial (gnu_looked_up file table hash trial)
  answers_by (inl t) = inl (record { told = t; gives = looked_up-none t })
  answers_by (inr f) = rw (looked_up-walked f) (inr (answered (gnu_walk_end file table hash trial) f refl))

pub gnu_lookup_answers : GnuLookupAnswers
gnu_lookup_answers file table hash trial = answers_by file table hash trial (cases_Bool (holds_none file table.place hash))

module _ (file : List ℕ) (table : HashTable) (hash : ℕ) (trial : ℕ → Result Bool Refusal) where
  one_lookup : (first second : ChainResult) → IsGnuLookup file table hash trial first → IsGnuLookup file table hash trial second → first ≡ second
  one_lookup first second (inl a) (inl b) = a.gives ∙ sym b.gives
  one_lookup first second (inl a) (inr b) = let x = a.told in let y = b.told in absurd (cc)
  one_lookup first second (inr a) (inl b) = let x = a.told in let y = b.told in absurd (cc)
  one_lookup first second (inr a) (inr b) =
      a.gives ∙ gives_one _ _ (gnu_walked_at file table.place hash) a.number b.number a.end b.end a.first b.first ∙ sym b.gives

pub gnu_lookup_is_one : GnuLookupIsOne
gnu_lookup_is_one file table hash trial first second a b = one_lookup file table hash trial first second a b

-- the bound
tried_le : (file : List ℕ) (place hash count : ℕ) → gnu_tried file place hash count ≤ count
unfolding gnu_tried
tried_le file place hash count =
    let most = sum_over-le (λ y. if hash_bits_match (chain_word file place y) hash then 1 else 0) 1 (gnu_start file place hash) count
    (λ y. elim (cases_Bool (hash_bits_match (chain_word file place y) hash)) [ inl t ↦ rw t (omega arith) | inr f ↦ rw f (omega arith) ]) in
    omega arith

module _ (file : List ℕ) (table : HashTable) (hash : ℕ) (trial : ℕ → Result Bool Refusal) where
  -- this many words can be read if symbols are there
  within : (i : ℕ) → ((j : ℕ) → j < i → is_chained file table (gnu_symbol file table.place hash j) ≡ true) → (i ≤ table.symbols) × (4 * i ≤ table.size)
  within zero h = (omega arith, omega arith)
  within (suc i) h =
      let begin = is_there file table (gnu_start file table.place hash + 0) (h 0 (omega arith)) in
      let there = is_there file table (gnu_start file table.place hash + i) (h i (omega arith)) in
      let low = begin.from_first in
      let b = there.below in
      let c : before_chains file table.place + 4 * (gnu_start file table.place hash + i - gnu_first file table.place) + 4 ≤ table.size = there.inside in
      (omega arith, omega arith)

  bounded_at : (tried read : ℕ) → tried ≤ read → ((j : ℕ) → j < read → is_chained file table (gnu_symbol file table.place hash j) ≡ true)
      → (answer : Result (Option ℕ) Refusal) → IsWithinTable table (record { answer = answer; tried = tried; read = read })
  bounded_at tried read few h answer =
      let w = within read h in
      record { tried_are_read = few; within_symbols = w.0; within_bytes = w.1 }

  there_before : (i : ℕ) (end : WalkEnd) → IsFirst (gnu_end file table hash trial) (gnu_symbol file table.place hash) i end
      → (j : ℕ) → j < i → is_chained file table (gnu_symbol file table.place hash j) ≡ true
  there_before i end f j low = goes_on_there file table hash trial (gnu_symbol file table.place hash j) (f.none_before j low)

  there_with : (i : ℕ) (end : WalkEnd) → IsFirst (gnu_end file table hash trial) (gnu_symbol file table.place hash) i end
      → (end ≡ NotThere → ⊥) → (j : ℕ) → j < suc i → is_chained file table (gnu_symbol file table.place hash j) ≡ true
  there_with i end f other j low =
      elim (cases_eq j i) [
        | inl same ↦ rw same (end_is_there file table hash trial (gnu_symbol file table.place hash i) (Some end) f.here (λ n. other (cc)))
        | inr before ↦ there_before i end f j (omega arith)
      ]

  bounded : (i : ℕ) (end : WalkEnd) → IsFirst (gnu_end file table hash trial) (gnu_symbol file table.place hash) i end
      → IsWithinTable table (gnu_walked_at file table.place hash i end)
  unfolding gnu_walked_at
  bounded i NotThere f = bounded_at _ _ (tried_le file table.place hash i) (there_before i NotThere f) _
  bounded i (Untried refusal) f = bounded_at _ _ (tried_le file table.place hash (suc i)) (there_with i (Untried refusal) f (λ n. cc)) _
  bounded i Answers f = bounded_at _ _ (tried_le file table.place hash (suc i)) (there_with i Answers f (λ n. cc)) _
  bounded i Last f = bounded_at _ _ (tried_le file table.place hash (suc i)) (there_with i Last f (λ n. cc)) _

  bounded_by : (walked : ChainResult) → IsGnuLookup file table hash trial walked → IsWithinTable table walked
  bounded_by walked (inl a) = rw (a.gives) (record { tried_are_read = omega arith; within_symbols = omega arith; within_bytes = omega arith })
  bounded_by walked (inr b) = rw (b.gives) (bounded b.number b.end b.first)

pub gnu_lookup_is_bounded : GnuLookupIsBounded
gnu_lookup_is_bounded file table hash trial = bounded_by file table hash trial (gnu_looked_up file table hash trial) (gnu_lookup_answers file table hash trial)

-- the facts about a symbol that is found
module _ (file : List ℕ) (table : HashTable) (hash : ℕ) (trial : ℕ → Result Bool Refusal) where
  found_at : (i y : ℕ) (end : WalkEnd) → (gnu_walked_at file table.place hash i end).answer ≡ Ok (Some y)
      → (end ≡ Answers) × (y ≡ gnu_symbol file table.place hash i)
  unfolding gnu_walked_at
  found_at i y NotThere e = absurd (cc)
  found_at i y (Untried refusal) e = absurd (cc)
  found_at i y Answers e = (refl, cc)
  found_at i y Last e = absurd (cc)

  absent_at : (i : ℕ) (end : WalkEnd) → (gnu_walked_at file table.place hash i end).answer ≡ Ok None → end ≡ Last
  unfolding gnu_walked_at
  absent_at i NotThere e = absurd (cc)
  absent_at i (Untried refusal) e = absurd (cc)
  absent_at i Answers e = absurd (cc)
  absent_at i Last e = refl

  -- a symbol that is not tried does not end a walk like one that answers
  passed_no_answer : (y : ℕ) → is_chained file table y ≡ true → hash_bits_match (chain_word file table.place y) hash ≡ false
      → gnu_end file table hash trial y ≡ Some Answers → ⊥
  passed_no_answer y is f e =
      let passed = sym (end-passed file table hash trial y is f) ∙ e in
      elim (end_of_chain-is (chain_word file table.place y)) [
        | inl last ↦ let x = last.1 in cc
        | inr on ↦ let x = on.1 in cc
      ]

  tried_answers : (y : ℕ) → is_chained file table y ≡ true → hash_bits_match (chain_word file table.place y) hash ≡ true
      → gnu_end file table hash trial y ≡ Some Answers → trial y ≡ Ok true
  tried_answers y is t e =
      let tried = sym (end-tried file table hash trial y is t) ∙ e in
      elim (trial_says (trial y)) [
        | inl answers ↦ answers
        | inr (inl other) ↦
            let on : end_of_chain (chain_word file table.place y) ≡ Some Answers = rw other at tried in
            elim (end_of_chain-is (chain_word file table.place y)) [
              | inl last ↦ let x = last.1 in absurd (cc)
              | inr on_ ↦ let x = on_.1 in absurd (cc)
            ]
        | inr (inr fault) ↦ let f = fault.1 in let on = rw f at tried in absurd (cc)
      ]

  answers_is : (y : ℕ) → gnu_end file table hash trial y ≡ Some Answers → IsFound file table hash trial y
  answers_is y e =
      let is = end_is_there file table hash trial y (Some Answers) e (λ n. cc) in
      elim (cases_Bool (hash_bits_match (chain_word file table.place y) hash)) [
        | inl t ↦ record { chained = is; of_hash = t; answers = tried_answers y is t e }
        | inr f ↦ absurd (passed_no_answer y is f e)
      ]

  found_by : (walked : ChainResult) (y : ℕ) → IsGnuLookup file table hash trial walked → walked.answer ≡ Ok (Some y) → IsFound file table hash trial y
  found_by walked y (inl a) e = let g = ap (λ (w : ChainResult). w.answer) a.gives in absurd (cc)
  found_by walked y (inr b) e =
      let here = found_at b.number y b.end (sym (ap (λ (w : ChainResult). w.answer) b.gives) ∙ e) in
      rw (here.1) (answers_is (gnu_symbol file table.place hash b.number) (b.first.here ∙ ap (λ (x : WalkEnd). Some x) here.0))

pub gnu_found_answers : GnuFoundAnswers
gnu_found_answers file table hash trial y e =
    found_by file table hash trial (gnu_looked_up file table hash trial) y (gnu_lookup_answers file table hash trial) e

-- a symbol that answers and is in the table is not skipped by the walk
module _ (file : List ℕ) (table : HashTable) (hash : ℕ) (trial : ℕ → Result Bool Refusal) where
  held_end : (y : ℕ) → trial y ≡ Ok true → hash_bits_match (chain_word file table.place y) hash ≡ true → is_chained file table y ≡ true
      → gnu_end file table hash trial y ≡ Some Answers
  held_end y a t is = rw (end-tried file table hash trial y is t, a) refl

  not_passed : (y : ℕ) → trial y ≡ Ok true → hash_bits_match (chain_word file table.place y) hash ≡ true
      → gnu_end file table hash trial y ≡ None → ⊥
  not_passed y a t on =
      let there = held_end y a t (goes_on_there file table hash trial y on) in
      not_both (gnu_end file table hash trial y) Answers there on

  not_last : (y : ℕ) → trial y ≡ Ok true → hash_bits_match (chain_word file table.place y) hash ≡ true
      → gnu_end file table hash trial y ≡ Some Last → ⊥
  not_last y a t e =
      let there = held_end y a t (end_is_there file table hash trial y (Some Last) e (λ n. cc)) in
      cc

  -- the last of a chain has a word that says so
  last_ends : (y : ℕ) → gnu_end file table hash trial y ≡ Some Last → is_chain_end (chain_word file table.place y) ≡ true
  last_ends y e =
      let is = end_is_there file table hash trial y (Some Last) e (λ n. cc) in
      elim (end_of_chain-is (chain_word file table.place y)) [
        | inl last ↦ last.0
        | inr on ↦ elim (cases_Bool (hash_bits_match (chain_word file table.place y) hash)) [
          | inr f ↦ let p = sym (end-passed file table hash trial y is f) ∙ e in let x = on.1 in absurd (cc)
          | inl t ↦
              let p = sym (end-tried file table hash trial y is t) ∙ e in
              let x = on.1 in
              elim (trial_says (trial y)) [
                | inl answers ↦ let q = rw answers at p in absurd (cc)
                | inr (inl other) ↦ let q : end_of_chain (chain_word file table.place y) ≡ Some Last = rw other at p in absurd (cc)
                | inr (inr fault) ↦ let f = fault.1 in let q = rw f at p in absurd (cc)
              ]
        ]
      ]

  none_held : (number i : ℕ) (y : ℕ) → IsFirst (gnu_end file table hash trial) (gnu_symbol file table.place hash) i Last
      → trial y ≡ Ok true → (h : IsHeld file table hash y) → h.number ≡ number → ⊥
  none_held number i y f a h n =
      let place : gnu_symbol file table.place hash number ≡ y = ap (gnu_symbol file table.place hash) (sym n) ∙ sym h.in_chain in
      elim (cases_lt number i) [
        | inl before ↦ not_passed y a h.of_hash (ap (gnu_end file table hash trial) (sym place) ∙ f.none_before number before)
        | inr late ↦ elim (cases_eq number i) [
          | inl same ↦ not_last y a h.of_hash (ap (gnu_end file table hash trial) (sym place ∙ ap (gnu_symbol file table.place hash) same) ∙ f.here)
          | inr other ↦
              let on = h.goes_on i (omega arith) in
              let last = last_ends (gnu_symbol file table.place hash i) f.here in
              cc
        ]
      ]

  absent_by : (walked : ChainResult) (y : ℕ) → IsGnuLookup file table hash trial walked → walked.answer ≡ Ok None
      → trial y ≡ Ok true → IsHeld file table hash y → ⊥
  absent_by walked y (inl p) e a h = let x = p.told in let z = h.told in cc
  absent_by walked y (inr b) e a h =
      let last = absent_at file table hash trial b.number b.end (sym (ap (λ (w : ChainResult). w.answer) b.gives) ∙ e) in
      none_held h.number b.number y (rw last at b.first) a h refl

pub gnu_absent_means_none : GnuAbsentMeansNone
gnu_absent_means_none file table hash trial held e y a =
    absent_by file table hash trial (gnu_looked_up file table hash trial) y (gnu_lookup_answers file table hash trial) e a (held y a)

module _ (file : List ℕ) (table : HashTable) (hash : ℕ) (trial : ℕ → Result Bool Refusal) where
  first_by : (walked : ChainResult) (found y : ℕ) → IsGnuLookup file table hash trial walked → walked.answer ≡ Ok (Some found)
      → trial y ≡ Ok true → IsHeld file table hash y → found ≤ y
  first_by walked found y (inl p) e a h = let x = p.told in let z = h.told in absurd (cc)
  first_by walked found y (inr b) e a h =
      let here = found_at file table hash trial b.number found b.end (sym (ap (λ (w : ChainResult). w.answer) b.gives) ∙ e) in
      let there = h.in_chain in
      elim (cases_lt h.number b.number) [
        | inl before ↦
            absurd (not_passed file table hash trial y a h.of_hash
            (ap (gnu_end file table hash trial) there ∙ b.first.none_before h.number before))
        | inr late ↦
            let f : found ≡ gnu_start file table.place hash + b.number = here.1 in
            let g : y ≡ gnu_start file table.place hash + h.number = there in
            omega arith
      ]

pub gnu_found_is_first : GnuFoundIsFirst
gnu_found_is_first file table hash trial found y e a h =
    first_by file table hash trial (gnu_looked_up file table hash trial) found y (gnu_lookup_answers file table hash trial) e a h
