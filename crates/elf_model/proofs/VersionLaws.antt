-- The laws of symbol versions.
use Rattle.std.proofs.Common.{◌≡◌, ℕ, zero, suc, ◌<◌, ◌≤◌, true, false, List, [], ◌∷◌, ◌++◌, length, All, Option, None, Some, refl, ap, sym, ◌∙◌, arith, inl, inr, zero-le}
use Rattle.std.proofs.lemmas.Bool.{cases_Bool}
use Rattle.std.proofs.lemmas.List.Elements.{All-nil, All-cons}
use Rattle.elf_model.specs.Prelude.{FirstListNamesFirst, NamedIsFirst, NumbersAreSmall, RecordCursorState, RecordsAreBounded, RecordsStand, StandsInTable, UnnamedHasNone, VERSION_NUMBERS, VisitedRecord, first_position, first_refusal, max_records, named_by, names_version_index, next_position, number_in, number_word, record_checks, versions_in, visited_at, visited_from}
use Rattle.elf_model.specs.declared.causes.Refusal.{Refusal}
use Rattle.elf_model.proofs.VersionSteps.{met-ended, met-most, met-record, met-refused, ends-inside, number-small}

-- no more records are visited than the maximum
bounded : (file : List ℕ) (table size most : ℕ) (stand : Option RecordCursorState) → length (visited_from file table size stand most).met ≤ most
bounded file table size most None = rw (met-ended file table size most) zero-le
bounded file table size zero (Some stand) = rw (met-most file table size stand) zero-le
bounded file table size (suc most) (Some stand) =
    go (bounded file table size most (next_position file table stand)) (first_refusal (record_checks file table size stand)) refl
  where
    go : length (visited_from file table size (next_position file table stand) most).met ≤ most
        → (refusal : Option Refusal) → first_refusal (record_checks file table size stand) ≡ refusal
        → length (visited_from file table size (Some stand) (suc most)).met ≤ suc most
    go more (Some refusal) h = rw (met-refused file table size stand most refusal h) zero-le
    go more None h = rw (met-record file table size stand most h) (omega arith)

pub records_are_bounded : RecordsAreBounded
unfolding versions_in
records_are_bounded kind file head table size = bounded file table size (max_records kind size) (first_position kind head size)

-- each record is in the table
inside : (file : List ℕ) (table size most : ℕ) (stand : Option RecordCursorState) → All (StandsInTable table size) (visited_from file table size stand most).met
inside file table size most None = rw (met-ended file table size most) (All-nil (StandsInTable table size))
inside file table size zero (Some stand) = rw (met-most file table size stand) (All-nil (StandsInTable table size))
inside file table size (suc most) (Some stand) =
    go (inside file table size most (next_position file table stand)) (first_refusal (record_checks file table size stand)) refl
  where
    go : All (StandsInTable table size) (visited_from file table size (next_position file table stand) most).met
        → (refusal : Option Refusal) → first_refusal (record_checks file table size stand) ≡ refusal
        → All (StandsInTable table size) (visited_from file table size (Some stand) (suc most)).met
    go more (Some refusal) h = rw (met-refused file table size stand most refusal h) (All-nil (StandsInTable table size))
    go more None h =
        let ends = ends-inside file table size stand h in
        rw (met-record file table size stand most h)
        (All-cons (StandsInTable table size) (visited_at table stand) (visited_from file table size (next_position file table stand) most).met
        (record { begins = omega arith; ends = omega arith }) more)

pub records_stand : RecordsStand
unfolding versions_in
records_stand kind file head table size = inside file table size (max_records kind size) (first_position kind head size)

-- and has a small index
small : (file : List ℕ) (table size most : ℕ) (stand : Option RecordCursorState)
    → All (λ (m : VisitedRecord). number_in (number_word file m) < VERSION_NUMBERS) (visited_from file table size stand most).met
small file table size most None = rw (met-ended file table size most) (All-nil _)
small file table size zero (Some stand) = rw (met-most file table size stand) (All-nil _)
small file table size (suc most) (Some stand) =
    go (small file table size most (next_position file table stand)) (first_refusal (record_checks file table size stand)) refl
  where
    go : All (λ (m : VisitedRecord). number_in (number_word file m) < VERSION_NUMBERS) (visited_from file table size (next_position file table stand) most).met
        → (refusal : Option Refusal) → first_refusal (record_checks file table size stand) ≡ refusal
        → All (λ (m : VisitedRecord). number_in (number_word file m) < VERSION_NUMBERS) (visited_from file table size (Some stand) (suc most)).met
    go more (Some refusal) h = rw (met-refused file table size stand most refusal h) (All-nil _)
    go more None h =
        rw (met-record file table size stand most h)
        (All-cons (λ (m : VisitedRecord). number_in (number_word file m) < VERSION_NUMBERS) (visited_at table stand)
        (visited_from file table size (next_position file table stand) most).met (number-small file table size stand h) more)

pub numbers_are_small : NumbersAreSmall
unfolding versions_in
numbers_are_small kind file head table size = small file table size (max_records kind size) (first_position kind head size)

-- a record that names a version index, and one that does not
pub named-here :
    (file : List ℕ) (number : ℕ) (met : VisitedRecord) (others : List VisitedRecord) → names_version_index file number met ≡ true
    → named_by file number (met ∷ others) ≡ Some met
unfolding named_by
named-here file number met others h = rw (h, named_by) refl

pub named-later :
    (file : List ℕ) (number : ℕ) (met : VisitedRecord) (others : List VisitedRecord) → names_version_index file number met ≡ false
    → named_by file number (met ∷ others) ≡ named_by file number others
unfolding named_by
named-later file number met others h = rw (h, named_by) refl

pub named-none : (file : List ℕ) (number : ℕ) → named_by file number [] ≡ None
unfolding named_by
named-none file number = refl

pub named_is_first : NamedIsFirst
named_is_first file number [] met e = let n = named-none file number in absurd (cc)
named_is_first file number (first ∷ records) met e =
    elim (cases_Bool (names_version_index file number first)) [
      | inl here ↦
          let h = named-here file number first records here in
          let same : first ≡ met = cc in
          record { before = []; others = records; parts = ap (λ (m : VisitedRecord). m ∷ records) same; names = rw (← same) here; none_before = All-nil _ }
      | inr later ↦
          let f = named_is_first file number records met (sym (named-later file number first records later) ∙ e) in
          record {
            before = first ∷ f.before;
            others = f.others;
            parts = ap (λ (rest : List VisitedRecord). first ∷ rest) f.parts;
            names = f.names;
            none_before = All-cons (λ (m : VisitedRecord). names_version_index file number m ≡ false) first f.before later f.none_before;
          }
    ]

pub unnamed_has_none : UnnamedHasNone
unnamed_has_none file number [] e = All-nil _
unnamed_has_none file number (first ∷ records) e =
    elim (cases_Bool (names_version_index file number first)) [
      | inl here ↦ let h = named-here file number first records here in absurd (cc)
      | inr later ↦
          All-cons (λ (m : VisitedRecord). names_version_index file number m ≡ false) first records later
          (unnamed_has_none file number records (sym (named-later file number first records later) ∙ e))
    ]

pub first_list_names_first : FirstListNamesFirst
first_list_names_first file number [] second met e = let n = named-none file number in absurd (cc)
first_list_names_first file number (first ∷ records) second met e =
    elim (cases_Bool (names_version_index file number first)) [
      | inl here ↦
          let h = named-here file number first records here in
          named-here file number first (records ++ second) here ∙ sym h ∙ e
      | inr later ↦
          named-later file number first (records ++ second) later
          ∙ first_list_names_first file number records second met (sym (named-later file number first records later) ∙ e)
    ]
