-- Walks in a gABI hash table for a symbol that answers: what is computed is the only walk, and it
-- is bounded.
use Rattle.std.proofs.Common.{◌≡◌, ℕ, zero, suc, ◌<◌, ◌≤◌, inl, inr, Bool, true, false, List, Option, None, Some, Result, Ok, Err, refl, sym, ap, ◌∙◌, arith}
use Rattle.std.proofs.lemmas.Bool.{cases_lt, cases_Bool, and_parts, ltb-true}
use Rattle.elf_model.specs.Prelude.{Answers, ChainEnd, ChainResult, GoesOn, HashTable, IsBounded, IsEndless, IsFirst, IsLookup, IsSysvWalk, Last, Lookup, LookupEnd, Nameless, NoIndex, NotThere, SysvFoundAnswers, SysvWalkAnswers, SysvWalkIsBounded, SysvWalkIsLookup, SysvWalkIsOne, Untried, WalkEnd, Wanted, bucket_of, end_at_word, end_of_match, end_of_name, fault_at, has_name, is_index, is_sysv_index, linked_at, looked_up, lookup_at, lookup_word, parse_lookup, same_symbol, section_table_of, sh_offset, symbol_at, sysv_bucket_of, sysv_cycle, sysv_end, sysv_hash, sysv_nchain, sysv_walk_end, sysv_walked, sysv_walked_at, sysv_walked_by, sysv_word, sysv_word_at, word_at}
use Rattle.elf_model.specs.declared.causes.Cause.{Cause}
use Rattle.elf_model.specs.declared.causes.Refusal.{Refusal}
use Rattle.elf_model.proofs.LookupLaws.{lookup_answers}
use Rattle.elf_model.proofs.WalkLaws.{long_endless, searched_endless, searched_first, gives_one, not_both}

module _ (file : List ℕ) (table : HashTable) (trial : ℕ → Result Bool Refusal) where
  end-not_there : (y : ℕ) → is_sysv_index file table (suc y) ≡ false → sysv_end file table trial (suc y) ≡ Some NotThere
  unfolding sysv_end
  end-not_there y t = rw (t, sysv_end) refl

  end-tried : (y : ℕ) → is_sysv_index file table (suc y) ≡ true → sysv_end file table trial (suc y) ≡ end_of_match (trial (suc y)) None
  unfolding sysv_end
  end-tried y t = rw (t, sysv_end) refl

  is_index_below : (y : ℕ) → is_sysv_index file table y ≡ true → y < sysv_nchain file table.place
  is_index_below y is = ltb-true y (sysv_nchain file table.place) (and_parts _ _ is).0

  goes_on_above : (word : ℕ) → sysv_end file table trial word ≡ None → 0 < word
  unfolding sysv_end
  goes_on_above zero e = absurd (cc)
  goes_on_above (suc y) e = omega arith

  goes_on_below : (word : ℕ) → sysv_end file table trial word ≡ None → word < sysv_nchain file table.place
  unfolding sysv_end
  goes_on_below zero e = absurd (cc)
  goes_on_below (suc y) e =
      elim (cases_Bool (is_sysv_index file table (suc y))) [
        | inl is ↦ is_index_below (suc y) is
        | inr isnt ↦ absurd (not_both _ NotThere (end-not_there y isnt) e)
      ]

  goes_on_bounded : IsBounded (sysv_end file table trial) (sysv_nchain file table.place)
  goes_on_bounded = record { above = goes_on_above; below = goes_on_below }

module _ (file : List ℕ) (table : HashTable) (hash : ℕ) (trial : ℕ → Result Bool Refusal) where
  endless_where :
      sysv_walk_end file table hash trial ≡ None → IsEndless (sysv_end file table trial) (sysv_word file table.place hash)
  unfolding sysv_walk_end
  endless_where e = searched_endless _ _ _ (sysv_nchain file table.place) (goes_on_bounded file table trial) e

  first_where :
      (i : ℕ) (end : WalkEnd) → sysv_walk_end file table hash trial ≡ Some (i, end)
      → IsFirst (sysv_end file table trial) (sysv_word file table.place hash) i end
  unfolding sysv_walk_end
  first_where i end e = searched_first _ _ _ (sysv_nchain file table.place) i end e

  answered :
      (end : Option (ℕ × WalkEnd)) → sysv_walk_end file table hash trial ≡ end
      → IsSysvWalk file table hash trial (sysv_walked_by file table.place hash end)
  answered None e = inr (record { endless = endless_where e; gives = refl })
  answered (Some found) e = inl (record { number = found.0; end = found.1; first = first_where found.0 found.1 e; gives = refl })

pub sysv_walk_answers : SysvWalkAnswers
unfolding sysv_walked
sysv_walk_answers file table hash trial = answered file table hash trial _ refl

pub sysv_walk_is_one : SysvWalkIsOne
sysv_walk_is_one file table hash trial first second (inl a) (inl b) =
    a.gives ∙ gives_one _ _ (sysv_walked_at file table.place hash) a.number b.number a.end b.end a.first b.first ∙ sym b.gives
sysv_walk_is_one file table hash trial first second (inl a) (inr b) =
    absurd (not_both _ a.end a.first.here (b.endless a.number))
sysv_walk_is_one file table hash trial first second (inr a) (inl b) =
    absurd (not_both _ b.end b.first.here (a.endless b.number))
sysv_walk_is_one file table hash trial first second (inr a) (inr b) = a.gives ∙ sym b.gives

module _ (file : List ℕ) (table : HashTable) (hash : ℕ) (trial : ℕ → Result Bool Refusal) where
  -- the words before the one at which a walk ends are at most as many as the chains
  few_before : (i : ℕ) (end : WalkEnd) → IsFirst (sysv_end file table trial) (sysv_word file table.place hash) i end
      → i ≤ sysv_nchain file table.place
  few_before i end f =
      elim (cases_lt (sysv_nchain file table.place) i) [
        | inr few ↦ few
        | inl many ↦
            let goes : GoesOn (sysv_end file table trial) (sysv_word file table.place hash) (suc (sysv_nchain file table.place))
            = λ k low. f.none_before k (omega arith) in
            let some = goes_on_below file table trial (sysv_word file table.place hash 0) (goes 0 (omega arith)) in
            let endless = long_endless _ _ _ (sysv_nchain file table.place) (goes_on_bounded file table trial) (omega arith)
            (λ k low. goes k (omega arith)) in
            absurd (not_both _ end f.here (endless i))
      ]

  -- and fewer, if it ends at a symbol that is tried
  fewer_before : (i : ℕ) (end : WalkEnd) → IsFirst (sysv_end file table trial) (sysv_word file table.place hash) i end
      → sysv_word file table.place hash i < sysv_nchain file table.place → suc i ≤ sysv_nchain file table.place
  fewer_before i end f some =
      elim (cases_lt i (sysv_nchain file table.place)) [
        | inl fewer ↦ fewer
        | inr many ↦
            let endless = long_endless _ _ _ (sysv_nchain file table.place) (goes_on_bounded file table trial) (omega arith)
            (λ k low. f.none_before k (omega arith)) in
            absurd (not_both _ end f.here (endless i))
      ]

  -- a walk that ends otherwise than at the chain's end or at no index ends at an index
  end_is_below : (word : ℕ) (end : WalkEnd) → sysv_end file table trial word ≡ Some end → (end ≡ Last → ⊥) → (end ≡ NotThere → ⊥)
      → word < sysv_nchain file table.place
  unfolding sysv_end
  end_is_below zero end e last not_there = absurd (last (cc))
  end_is_below (suc y) end e last not_there =
      elim (cases_Bool (is_sysv_index file table (suc y))) [
        | inl is ↦ is_index_below file table trial (suc y) is
        | inr isnt ↦ let n = end-not_there file table trial y isnt in absurd (not_there (cc))
      ]

  tried_at : (i : ℕ) (end : WalkEnd) → IsFirst (sysv_end file table trial) (sysv_word file table.place hash) i end
      → ((sysv_walked_at file table.place hash i end).read ≡ (sysv_walked_at file table.place hash i end).tried)
      × ((sysv_walked_at file table.place hash i end).tried ≤ sysv_nchain file table.place)
  unfolding sysv_walked_at
  tried_at i Last f = (refl, few_before i Last f)
  tried_at i NotThere f = (refl, few_before i NotThere f)
  tried_at i (Untried refusal) f = (refl, fewer_before i (Untried refusal) f (end_is_below _ _ f.here (λ e. cc) (λ e. cc)))
  tried_at i Answers f = (refl, fewer_before i Answers f (end_is_below _ _ f.here (λ e. cc) (λ e. cc)))

  tried_by : (walked : ChainResult) → IsSysvWalk file table hash trial walked
      → (walked.read ≡ walked.tried) × (walked.tried ≤ sysv_nchain file table.place)
  tried_by walked (inl a) = rw (a.gives) (tried_at a.number a.end a.first)
  tried_by walked (inr b) = rw (b.gives) (refl, omega arith)

pub sysv_walk_is_bounded : SysvWalkIsBounded
sysv_walk_is_bounded file table hash trial =
    tried_by file table hash trial (sysv_walked file table hash trial) (sysv_walk_answers file table hash trial)

-- a symbol that is tried, and at which the walk ends as at one that answers, answers
answering_trial : (r : Result Bool Refusal) → end_of_match r None ≡ Some Answers → r ≡ Ok true
answering_trial (Ok true) e = refl
answering_trial (Ok false) e = absurd (cc)
answering_trial (Err refusal) e = absurd (cc)

module _ (file : List ℕ) (table : HashTable) (hash : ℕ) (trial : ℕ → Result Bool Refusal) where
  answers_is : (word : ℕ) → sysv_end file table trial word ≡ Some Answers → trial word ≡ Ok true
  unfolding sysv_end
  answers_is zero e = absurd (cc)
  answers_is (suc y) e =
      elim (cases_Bool (is_sysv_index file table (suc y))) [
        | inl is ↦ answering_trial (trial (suc y)) (sym (end-tried file table trial y is) ∙ e)
        | inr isnt ↦ let n = end-not_there file table trial y isnt in absurd (cc)
      ]

  found_at : (i y : ℕ) (end : WalkEnd) → (sysv_walked_at file table.place hash i end).answer ≡ Ok (Some y)
      → (end ≡ Answers) × (y ≡ sysv_word file table.place hash i)
  unfolding sysv_walked_at
  found_at i y NotThere e = absurd (cc)
  found_at i y (Untried refusal) e = absurd (cc)
  found_at i y Answers e = (refl, cc)
  found_at i y Last e = absurd (cc)

  found_by : (walked : ChainResult) (y : ℕ) → IsSysvWalk file table hash trial walked → walked.answer ≡ Ok (Some y) → trial y ≡ Ok true
  found_by walked y (inr b) e = let g = ap (λ (w : ChainResult). w.answer) b.gives in absurd (cc)
  found_by walked y (inl a) e =
      let here = found_at a.number y a.end (sym (ap (λ (w : ChainResult). w.answer) a.gives) ∙ e) in
      rw (here.1) (answers_is (sysv_word file table.place hash a.number) (a.first.here ∙ ap (λ (x : WalkEnd). Some x) here.0))

pub sysv_found_answers : SysvFoundAnswers
sysv_found_answers file table hash trial y e =
    found_by file table hash trial (sysv_walked file table hash trial) y (sysv_walk_answers file table hash trial) e

-- The lookup of a name as such a walk: why it ends.
as_end : ℕ → LookupEnd → WalkEnd
as_end symbol ChainEnd = Last
as_end symbol NoIndex = NotThere
as_end symbol (Nameless cause) = Untried (record { at = symbol; cause = cause })
as_end symbol Wanted = Answers

as_end_if : ℕ → Option LookupEnd → Option WalkEnd
as_end_if symbol None = None
as_end_if symbol (Some end) = Some (as_end symbol end)

trial_alike : (symbol : ℕ) (equal : Result Bool Cause) → end_of_match (fault_at symbol equal) None ≡ as_end_if symbol (end_of_name equal)
unfolding as_end as_end_if
trial_alike symbol (Ok true) = refl
trial_alike symbol (Ok false) = refl
trial_alike symbol (Err cause) = refl

module _ (file : List ℕ) (at : ℕ) (wanted : List ℕ) where
  trial : ℕ → Result Bool Refusal
  trial y = has_name file (linked_at file at) wanted y

  symbol : ℕ → ℕ
  symbol y = symbol_at file (linked_at file at) y

  ends_alike : (word : ℕ) → sysv_end file (section_table_of file at) trial word ≡ as_end_if (symbol word) (end_at_word file at wanted word)
  unfolding sysv_end end_at_word as_end as_end_if trial symbol
  ends_alike zero = refl
  ends_alike (suc y) =
      elim (cases_Bool (is_index file at (suc y))) [
        | inl is ↦ rw (is, sysv_end, end_at_word) (trial_alike (symbol (suc y)) (same_symbol file (linked_at file at) wanted (suc y)))
        | inr isnt ↦ rw (isnt, sysv_end, end_at_word) refl
      ]

  words_alike : (i : ℕ) → sysv_word file (sh_offset file at) (sysv_hash wanted) i ≡ lookup_word file at wanted i
  unfolding sysv_bucket_of bucket_of
  words_alike i = refl

  gives_alike : (i : ℕ) (end : LookupEnd)
      → parse_lookup file at (sysv_walked_at file (sh_offset file at) (sysv_hash wanted) i (as_end (symbol (lookup_word file at wanted i)) end))
      ≡ lookup_at file at wanted i end
  unfolding sysv_walked_at lookup_at as_end symbol sysv_bucket_of bucket_of sysv_word_at word_at
  gives_alike i ChainEnd = refl
  gives_alike zero NoIndex = refl
  gives_alike (suc i) NoIndex = refl
  gives_alike i (Nameless cause) = refl
  gives_alike i Wanted = refl

  pub walk : ChainResult
  walk = sysv_walked file (section_table_of file at) (sysv_hash wanted) trial

  first_alike : (number : ℕ) (end : LookupEnd) → IsFirst (end_at_word file at wanted) (lookup_word file at wanted) number end
      → IsFirst (sysv_end file (section_table_of file at) trial) (sysv_word file (sh_offset file at) (sysv_hash wanted)) number
      (as_end (symbol (lookup_word file at wanted number)) end)
  unfolding as_end_if
  first_alike number end f = record {
    here =
        ap (sysv_end file (section_table_of file at) trial) (words_alike number) ∙ ends_alike (lookup_word file at wanted number)
        ∙ ap (as_end_if (symbol (lookup_word file at wanted number))) f.here;
    none_before = λ j low.
        ap (sysv_end file (section_table_of file at) trial) (words_alike j) ∙ ends_alike (lookup_word file at wanted j)
        ∙ ap (as_end_if (symbol (lookup_word file at wanted j))) (f.none_before j low);
  }

  walk_is : (walked : ChainResult) → IsSysvWalk file (section_table_of file at) (sysv_hash wanted) trial walked → walk ≡ walked
  unfolding walk
  walk_is walked is =
      sysv_walk_is_one file (section_table_of file at) (sysv_hash wanted) trial walk walked
      (sysv_walk_answers file (section_table_of file at) (sysv_hash wanted) trial) is

  walk_alike : (lookup : Lookup) → IsLookup file at wanted lookup → parse_lookup file at walk ≡ lookup
  unfolding as_end_if sysv_bucket_of bucket_of
  walk_alike lookup (inl a) =
      let end = as_end (symbol (lookup_word file at wanted a.number)) a.end in
      let is = walk_is (sysv_walked_at file (sh_offset file at) (sysv_hash wanted) a.number end)
      (inl (record { number = a.number; end = end; first = first_alike a.number a.end a.first; gives = refl })) in
      ap (parse_lookup file at) is ∙ gives_alike a.number a.end ∙ sym a.gives
  walk_alike lookup (inr b) =
      let is = walk_is (sysv_cycle file (sh_offset file at) (sysv_hash wanted))
      (inr (record {
        endless = λ i. ap (sysv_end file (section_table_of file at) trial) (words_alike i) ∙ ends_alike (lookup_word file at wanted i)
            ∙ ap (as_end_if (symbol (lookup_word file at wanted i))) (b.endless i);
        gives = refl;
      })) in
      ap (parse_lookup file at) is ∙ sym b.gives

pub sysv_walk_is_lookup : SysvWalkIsLookup
unfolding walk trial
sysv_walk_is_lookup file at wanted = walk_alike file at wanted (looked_up file at wanted) (lookup_answers file at wanted)
