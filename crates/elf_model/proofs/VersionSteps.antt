-- Walks over symbol versions, a record at a time.
use Rattle.std.proofs.Common.{[], ◌<◌, ◌==◌, not, ◌≡◌, ℕ, zero, suc, ◌+◌, ◌≤◌, nat_lt, false, List, ◌∷◌, None, Some, refl, arith, inl, inr}
use Rattle.std.proofs.lemmas.Bool.{cases_Bool}
use Rattle.std.proofs.lemmas.Bool.Decides.{nat_tests}
use Rattle.elf_model.specs.Prelude.{Check, RecordCursorState, RecordIsRefused, RecordIsVisited, VERSION_NUMBERS, first_refusal, name_end, next_position, no_versions, number_in, number_word, record_checks, record_size, refuse, version_word, visited_at, visited_from, with_visited, word_checks}
use Rattle.elf_model.specs.declared.causes.Cause.TheVariants.{BadVersion, VersionCut, VersionIndex}
use Rattle.elf_model.specs.declared.causes.Refusal.{Refusal}

-- a walk that has ended visits nothing more
pub met-ended : (file : List ℕ) (table size most : ℕ) → visited_from file table size None most ≡ no_versions None
unfolding visited_from
met-ended file table size most = refl

-- and one that has visited the maximum number of records is cut
pub met-most :
    (file : List ℕ) (table size : ℕ) (stand : RecordCursorState)
    → visited_from file table size (Some stand) zero ≡ no_versions (Some (record { at = stand.from; cause = VersionCut }))
unfolding visited_from
met-most file table size stand = refl

pub met-record :
    (file : List ℕ) (table size : ℕ) (stand : RecordCursorState) (most : ℕ) → first_refusal (record_checks file table size stand) ≡ None
    → visited_from file table size (Some stand) (suc most)
    ≡ with_visited (visited_at table stand) (visited_from file table size (next_position file table stand) most)
unfolding visited_from
met-record file table size stand most h = rw (h, visited_from) refl

pub met-refused :
    (file : List ℕ) (table size : ℕ) (stand : RecordCursorState) (most : ℕ) (refusal : Refusal)
    → first_refusal (record_checks file table size stand) ≡ Some refusal
    → visited_from file table size (Some stand) (suc most) ≡ no_versions (Some refusal)
unfolding visited_from
met-refused file table size stand most refusal h = rw (h, visited_from) refl

pub record_is_visited : RecordIsVisited
record_is_visited file table size stand most h = met-record file table size stand most h

pub record_is_refused : RecordIsRefused
record_is_refused file table size stand most refusal h = met-refused file table size stand most refusal h

-- the first of some checks passes if all do
pub first-passes : (check : Check) (checks : List Check) → first_refusal (check ∷ checks) ≡ None → check.fails ≡ false
first-passes check checks h =
    elim (cases_Bool check.fails) [ inl fails ↦ let f = rw fails at h in absurd (cc) | inr passes ↦ passes ]

-- and the others do
pub others-pass : (check : Check) (checks : List Check) → first_refusal (check ∷ checks) ≡ None → first_refusal checks ≡ None
others-pass check checks h = rw (first-passes check checks h) at h

-- a record whose checks pass ends within its table
pub ends-inside :
    (file : List ℕ) (table size : ℕ) (stand : RecordCursorState) → first_refusal (record_checks file table size stand) ≡ None
    → stand.place + record_size stand.kind ≤ size
unfolding record_checks
ends-inside file table size stand h =
    let inside : nat_lt size (stand.place + record_size stand.kind) ≡ false = first-passes (refuse (nat_lt size (stand.place + record_size stand.kind)) stand.from VersionCut) (word_checks file size stand.place (visited_at table stand)) h in
    grind (arith, nat_tests)

-- its version index is not too large
pub number-small :
    (file : List ℕ) (table size : ℕ) (stand : RecordCursorState) → first_refusal (record_checks file table size stand) ≡ None
    → number_in (number_word file (visited_at table stand)) < VERSION_NUMBERS
unfolding record_checks
number-small file table size stand h =
    let met = visited_at table stand in
    let inside_ = refuse (nat_lt size (stand.place + record_size stand.kind)) stand.from VersionCut in
    let layout = refuse (not (version_word file met == 1)) met.at BadVersion in
    let small = refuse (not (nat_lt (number_in (number_word file met)) VERSION_NUMBERS)) met.at VersionIndex in
    let named = refuse (nat_lt size (stand.place + name_end file met)) met.at VersionCut in
    let words = others-pass inside_ (layout ∷ small ∷ named ∷ []) h in
    let passes = first-passes small (named ∷ []) (others-pass layout (small ∷ named ∷ []) words) in
    grind (arith, nat_tests)
