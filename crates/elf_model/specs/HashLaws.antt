-- Laws of lookups: what is computed is the only lookup, and a walk either ends or reaches a word a
-- second time.
use Rattle.std.specs.Prelude.{ℕ, ◌<◌, ◌≤◌, ◌≡◌, Option, None, List}
use Rattle.elf_model.specs.Hash.{nchain, walk_word, lookup_word, LookupEnd, end_at_word, Lookup, IsEndless, IsLookup, looked_up, cycle}

-- two words are the same, the later of them number n or before it
pub record Repeats (words : ℕ → ℕ) (n : ℕ) : Type 0 where
  pub earlier : ℕ
  pub later : ℕ
  pub before : earlier < later
  pub within : later ≤ n
  pub again : words earlier ≡ words later

-- a word at which a walk does not end is above 0 and below a bound
pub record IsBounded {E : Type 0} (ends : ℕ → Option E) (bound : ℕ) : Type 0 where
  pub above : (word : ℕ) → ends word ≡ None → 0 < word
  pub below : (word : ℕ) → ends word ≡ None → word < bound

-- a walk does not end at its first words, up to this number
abbrev pub GoesOn : {E : Type 0} → (ℕ → Option E) → (ℕ → ℕ) → ℕ → Type 0
GoesOn ends words n = (i : ℕ) → i < n → ends (words i) ≡ None

-- a walk that reaches a word a second time before it ends never ends
abbrev pub RepeatNeverEnds : Type 0
RepeatNeverEnds =
    (ends : ℕ → Option LookupEnd) (next : ℕ → ℕ) (start n : ℕ)
    → Repeats (walk_word next start) n → GoesOn ends (walk_word next start) n → IsEndless ends (walk_word next start)

-- a walk over words below a bound that goes on for as many words reaches one of them a second time
abbrev pub LongWalkRepeats : Type 0
LongWalkRepeats =
    (ends : ℕ → Option LookupEnd) (words : ℕ → ℕ) (n : ℕ)
    → IsBounded ends n → 0 < n → GoesOn ends words n → Repeats words n

-- a walk over words below a bound that goes on for as many words goes on forever
abbrev pub LongWalkNeverEnds : Type 0
LongWalkNeverEnds =
    (ends : ℕ → Option LookupEnd) (next : ℕ → ℕ) (start n : ℕ)
    → IsBounded ends n → 0 < n → GoesOn ends (walk_word next start) n → IsEndless ends (walk_word next start)

-- the words at which a lookup does not end are above 0 and below the number of chains
abbrev pub LookupIsBounded : Type 0
LookupIsBounded = (file : List ℕ) (at : ℕ) (wanted : List ℕ) → IsBounded (end_at_word file at wanted) (nchain file at)

-- what is computed is the result of a lookup
abbrev pub LookupAnswers : Type 0
LookupAnswers = (file : List ℕ) (at : ℕ) (wanted : List ℕ) → IsLookup file at wanted (looked_up file at wanted)

-- it has no other result
abbrev pub LookupIsOne : Type 0
LookupIsOne =
    (file : List ℕ) (at : ℕ) (wanted : List ℕ) (first second : Lookup)
    → IsLookup file at wanted first → IsLookup file at wanted second → first ≡ second

-- a lookup that goes on for as many words as there are chains, one at least, never ends
abbrev pub CycleIsEndless : Type 0
CycleIsEndless =
    (file : List ℕ) (at : ℕ) (wanted : List ℕ)
    → 0 < nchain file at
    → GoesOn (end_at_word file at wanted) (lookup_word file at wanted) (nchain file at)
    → IsEndless (end_at_word file at wanted) (lookup_word file at wanted)

-- a lookup is the cycle exactly if it never ends: its outcome alone says that it does
abbrev pub CycleExactly : Type 0
CycleExactly =
    (file : List ℕ) (at : ℕ) (wanted : List ℕ)
    → ((looked_up file at wanted).answer ≡ (cycle file at wanted).answer
    → IsEndless (end_at_word file at wanted) (lookup_word file at wanted))
    × (IsEndless (end_at_word file at wanted) (lookup_word file at wanted) → looked_up file at wanted ≡ cycle file at wanted)

-- a lookup compares no more symbols' names than there are chains
abbrev pub ComparedWithinChains : Type 0
ComparedWithinChains =
    (file : List ℕ) (at : ℕ) (wanted : List ℕ) → (looked_up file at wanted).compared ≤ nchain file at
