-- A walk in a SysV hash table step by step: what it finds at the current word.
use Rattle.std.proofs.Common.{◌≡◌, ℕ, zero, suc, ◌+◌, ◌*◌, ◌%◌, ◌<◌, ◌≤◌, inl, inr, Bool, true, false, List, Option, None, Some, Result, Ok, Err, refl, sym, ap, subst, ◌∙◌, arith, add-one}
use Rattle.std.proofs.lemmas.Bool.{cases_eq, cases_lt}
use Rattle.elf_model.specs.Prelude.{Answers, ChainResult as NoteScan, EndsAtWord, GoesOn, HashTable as Table, IsFirst, IsSysvWalk, Last, NotThere, Untried, WalkEnd, end_of_match, field, is_sysv_index, sysv_bucket_of, sysv_chain_at, sysv_cycle, sysv_end, sysv_nchain, sysv_walked, sysv_walked_at, sysv_word, sysv_word_at, walk_word}
use Rattle.elf_model.specs.declared.causes.Cause.TheVariants.{HashCycle, HashIndex}
use Rattle.elf_model.specs.declared.causes.Refusal.{Refusal}
use Rattle.elf_model.proofs.LookupSteps.{goes_on_more}
use Rattle.elf_model.proofs.SysvWalkLaws.{sysv_walk_answers, sysv_walk_is_bounded, sysv_walk_is_one}
use Rattle.elf_model.proofs.WalkLaws.{not_both}
use Rattle.elf_table.specs.Prelude.{IsOfRead}
use Rattle.elf_table.specs.declared.fault.Fault.{Fault}
use Rattle.elf_table.specs.declared.fault.Fault.TheVariants.{Refused}
use Rattle.elf_hash.specs.Prelude.{IsSysv, TriesSymbol, walk_bytes}
use Rattle.elf_hash.specs.declared.answer.SymbolMatch.{SymbolMatch}
use Rattle.elf_hash.specs.declared.sysv_table.SysvHashTable.{SysvHashTable}
use Rattle.elf_hash.proofs.WalkLaws.{Meets, bytes_tried, meets_answer, meets_fault, meets_refusal, meets_untried}

module _ (file : List ℕ) (table : Table) (hash : ℕ) (says : ℕ → Result Bool Refusal) where
  abbrev ends : ℕ → Option WalkEnd
  ends word = sysv_end file table says word

  abbrev words : ℕ → ℕ
  words i = sysv_word file table.place hash i

  abbrev walk : NoteScan
  walk = sysv_walked file table hash says

  -- a walk has come to a word at an offset after a number of steps
  pub record Along (steps word place : ℕ) : Type 0 where
    pub goes : GoesOn ends words steps
    pub word_is : word ≡ words steps
    pub place_is : place ≡ sysv_word_at file table.place hash steps

  pub along_start : (word place : ℕ) → place ≡ sysv_bucket_of file table.place hash → word ≡ field file place 4 → Along 0 word place
  unfolding sysv_word_at walk_word
  along_start word place here read = record { goes = λ i low. absurd (omega arith); word_is = rw (read, here) refl; place_is = here }

  -- it ends there
  ends_here : (steps word place : ℕ) (end : WalkEnd) → Along steps word place → ends word ≡ Some end → walk ≡ sysv_walked_at file table.place hash steps end
  ends_here steps word place end along here =
      sysv_walk_is_one file table hash says walk _ (sysv_walk_answers file table hash says)
      (inl (record {
        number = steps;
        end = end;
        first = record { here = ap ends (sym along.word_is) ∙ here; none_before = along.goes };
        gives = refl;
      }))

  end_none : ends 0 ≡ Some Last
  unfolding sysv_end
  end_none = refl

  end_no_index : (word : ℕ) → 0 < word → is_sysv_index file table word ≡ false → ends word ≡ Some NotThere
  unfolding sysv_end
  end_no_index zero some isnt = absurd (omega arith)
  end_no_index (suc y) some isnt = rw (isnt, sysv_end) refl

  end_tried : (word : ℕ) → 0 < word → is_sysv_index file table word ≡ true → ends word ≡ end_of_match (says word) None
  unfolding sysv_end
  end_tried zero some is = absurd (omega arith)
  end_tried (suc y) some is = rw (is, sysv_end) refl

  -- no fewer symbols are tried, and no fewer words read, than steps were taken
  least_at : (i steps : ℕ) (end : WalkEnd) → steps ≤ i
      → (steps ≤ (sysv_walked_at file table.place hash i end).tried) × (steps ≤ (sysv_walked_at file table.place hash i end).read)
  unfolding sysv_walked_at
  least_at i steps Last few = (few, few)
  least_at i steps NotThere few = (few, few)
  least_at i steps (Untried refusal) few = (omega arith, omega arith)
  least_at i steps Answers few = (omega arith, omega arith)

  least_tried : (i : ℕ) (end : WalkEnd) (says_here : Result Bool Refusal) → end_of_match says_here None ≡ Some end
      → (suc i ≤ (sysv_walked_at file table.place hash i end).tried) × (suc i ≤ (sysv_walked_at file table.place hash i end).read)
  unfolding sysv_walked_at
  least_tried i Last (Ok true) e = absurd (cc)
  least_tried i Last (Ok false) e = absurd (cc)
  least_tried i Last (Err refusal) e = absurd (cc)
  least_tried i NotThere (Ok true) e = absurd (cc)
  least_tried i NotThere (Ok false) e = absurd (cc)
  least_tried i NotThere (Err refusal) e = absurd (cc)
  least_tried i (Untried refusal) says_here e = (omega arith, omega arith)
  least_tried i Answers says_here e = (omega arith, omega arith)

  no_fewer : (steps number : ℕ) (end : WalkEnd) → GoesOn ends words steps → IsFirst ends words number end → steps ≤ number
  no_fewer steps number end goes first = elim (cases_lt number steps) [
    | inl early ↦ absurd (not_both _ end first.here (goes number early))
    | inr late ↦ late
  ]

  least : (walked : NoteScan) → IsSysvWalk file table hash says walked → (steps : ℕ) → GoesOn ends words steps → steps ≤ sysv_nchain file table.place
      → (steps ≤ walked.tried) × (steps ≤ walked.read)
  least walked (inl a) steps goes few = rw (a.gives) (least_at a.number steps a.end (no_fewer steps a.number a.end goes a.first))
  least walked (inr b) steps goes few = rw (b.gives) (few, few)

  -- and one more at an index, whose symbol is tried
  ends_more : (walked : NoteScan) (a : EndsAtWord file table hash says walked) (steps : ℕ) → GoesOn ends words steps
      → ends (words steps) ≡ end_of_match (says (words steps)) None → (suc steps ≤ walked.tried) × (suc steps ≤ walked.read)
  ends_more walked a steps goes tries =
      let late = no_fewer steps a.number a.end goes a.first in
      rw (a.gives)
      (elim (cases_eq a.number steps) [
        | inl same ↦
            let here : ends (words steps) ≡ Some a.end = rw same at a.first.here in
            rw same (least_tried steps a.end (says (words steps)) (sym tries ∙ here))
        | inr other ↦ least_at a.number (suc steps) a.end (omega arith)
      ])

  least_more : (walked : NoteScan) → IsSysvWalk file table hash says walked → (steps : ℕ) → GoesOn ends words steps → suc steps ≤ sysv_nchain file table.place
      → ends (words steps) ≡ end_of_match (says (words steps)) None → (suc steps ≤ walked.tried) × (suc steps ≤ walked.read)
  least_more walked (inl a) steps goes few tries = ends_more walked a steps goes tries
  least_more walked (inr b) steps goes few tries = rw (b.gives) (few, few)

  -- a walk is cyclic that tries a symbol after as many steps as there are chains
  goes_round : (walked : NoteScan) → IsSysvWalk file table hash says walked → walked.tried ≤ sysv_nchain file table.place
      → GoesOn ends words (sysv_nchain file table.place)
      → ends (words (sysv_nchain file table.place)) ≡ end_of_match (says (words (sysv_nchain file table.place))) None
      → walked ≡ sysv_cycle file table.place hash
  goes_round walked (inl a) most goes tries =
      let more = (ends_more walked a (sysv_nchain file table.place) goes tries).0 in absurd (omega arith)
  goes_round walked (inr b) most goes tries = b.gives

  -- it has come to an index, whose symbol is tried
  pub record Tried (steps word : ℕ) : Type 0 where
    pub place : ℕ
    pub along : Along steps word place
    pub tries : ends word ≡ end_of_match (says word) None
    pub few : suc steps ≤ sysv_nchain file table.place

  pub comes : (steps word place : ℕ) → Along steps word place → 0 < word → is_sysv_index file table word ≡ true → steps < sysv_nchain file table.place → Tried steps word
  comes steps word place along some is room = record { place = place; along = along; tries = end_tried word some is; few = room }

  more : (steps word : ℕ) → Tried steps word → (suc steps ≤ walk.tried) × (suc steps ≤ walk.read)
  more steps word t =
      least_more walk (sysv_walk_answers file table hash says) steps t.along.goes t.few (rw (← t.along.word_is) t.tries)

  module _ (is_at : ℕ → SymbolMatch → Type 0) (cost : ℕ) where
    module _ (steps word place : ℕ) (along : Along steps word place) where
      pub meets_absent : word ≡ 0 → Meets is_at 4 cost walk (walk_bytes 4 steps steps cost) (Ok (record { found = None; tried = steps; read = steps }))
      unfolding sysv_walked_at
      meets_absent none =
          meets_answer is_at 4 cost walk _ steps steps None (ends_here steps word place Last along (rw none end_none)) (omega arith) tt

      pub meets_no_index : 0 < word → is_sysv_index file table word ≡ false
          → Meets is_at 4 cost walk (walk_bytes 4 steps steps cost) (Err (Refused (record { at = place; cause = HashIndex })))
      unfolding sysv_walked_at
      meets_no_index some isnt =
          rw (along.place_is)
          (meets_refusal is_at 4 cost walk _ steps steps _ (ends_here steps word place NotThere along (end_no_index word some isnt)) (omega arith))

      pub meets_cycle : (start : ℕ) → start ≡ sysv_bucket_of file table.place hash → steps ≡ sysv_nchain file table.place → 0 < word
          → is_sysv_index file table word ≡ true
          → Meets is_at 4 cost walk (walk_bytes 4 steps steps cost) (Err (Refused (record { at = start; cause = HashCycle })))
      meets_cycle start here all some is =
          let gives : walk ≡ sysv_cycle file table.place hash
          = goes_round walk (sysv_walk_answers file table hash says) (sysv_walk_is_bounded file table hash says).1 (rw (← all) along.goes)
          (rw (← all, ← along.word_is) (end_tried word some is)) in
          rw (here, all) (meets_refusal is_at 4 cost walk _ _ _ _ gives (omega arith))

    module _ (steps word : ℕ) (t : Tried steps word) where
      pub meets_untried_here : (fault : Fault) (index : ℕ) → index ≡ word → TriesSymbol is_at says index (Err fault)
          → Meets is_at 4 cost walk (walk_bytes 4 steps steps cost + cost) (Err fault)
      unfolding sysv_walked_at
      meets_untried_here fault index same tries =
          let few = more steps word t in
          meets_untried is_at 4 cost walk _ (suc steps) (suc steps) word says fault
          (subst (λ (i : ℕ). TriesSymbol is_at says i (Err fault)) same tries)
          (λ refusal e. ends_here steps word t.place (Untried refusal) t.along (t.tries ∙ rw e refl))
          few.0 few.1 (omega (arith, bytes_tried 4 steps steps cost))

      pub meets_found : (answer : SymbolMatch) (index : ℕ) → index ≡ word → TriesSymbol is_at says index (Ok (Some answer))
          → Meets is_at 4 cost walk (walk_bytes 4 steps steps cost + cost)
          (Ok (record { found = Some (record { index = word; answer = answer }); tried = steps + 1; read = steps + 1 }))
      unfolding sysv_walked_at
      meets_found answer index same tries =
          rw (add-one, ← same)
          (meets_answer is_at 4 cost walk _ (suc steps) (suc steps) _
          (rw (same, t.along.word_is) (ends_here steps word t.place Answers t.along (t.tries ∙ rw (sym (ap says same) ∙ tries.0) refl)))
          (omega (arith, bytes_tried 4 steps steps cost)) tries.1)

      pub meets_unread : (fault : Fault) → IsOfRead fault → Meets is_at 4 cost walk (walk_bytes 4 steps steps cost + cost + 4) (Err fault)
      meets_unread fault read =
          let few = more steps word t in
          meets_fault is_at 4 cost walk _ (suc steps) (suc steps) fault read few.0 few.1 (omega (arith, bytes_tried 4 steps steps cost))

      -- past a symbol that does not match
      pub along_next : (found : Option SymbolMatch) (next place index : ℕ) → index ≡ word → TriesSymbol is_at says index (Ok found) → ((answer : SymbolMatch) → found ≡ Some answer → ⊥)
          → place ≡ sysv_chain_at file table.place word → next ≡ field file place 4 → Along (steps + 1) next place
      unfolding walk_word sysv_word_at
      along_next (Some answer) next place index same tries other is_at read = absurd (other answer refl)
      along_next None next place index same tries other is_at read =
          rw (add-one)
          (record {
            goes = goes_on_more ends words steps t.along.goes (rw (← t.along.word_is) (t.tries ∙ rw (sym (ap says same) ∙ tries) refl));
            word_is = rw (read, is_at, t.along.word_is) refl;
            place_is = rw (is_at, t.along.word_is) refl;
          })

-- the offsets of the words of a table
pub bucket_is : (file : List ℕ) (table : Table) (hash : ℕ) (t : SysvHashTable) → IsSysv file table t
    → t.place.at + (8 + 4 * (hash % t.nbucket)) ≡ sysv_bucket_of file table.place hash
unfolding sysv_bucket_of
bucket_is file table hash t is = rw (is.place.start, is.buckets) refl

pub chain_is : (file : List ℕ) (table : Table) (index : ℕ) (t : SysvHashTable) → IsSysv file table t
    → t.place.at + (8 + 4 * t.nbucket + 4 * index) ≡ sysv_chain_at file table.place index
chain_is file table index t is = rw (is.place.start, is.buckets) refl
