-- Rules that are in two definitions, one for lookups and one for listings, are the same.
use Rattle.std.proofs.Common.{◌≡◌, ℕ, zero, suc, ◌+◌, ◌/◌, ◌==◌, List, [], ◌∷◌, ◌++◌, append-nil, Option, None, Some, refl, ap, sym, ◌∙◌, arith, inl, inr}
use Rattle.std.proofs.lemmas.Bool.{cases_Bool}
use Rattle.std.specs.Option.{option_map}
use Rattle.elf_model.specs.Prelude.{DYNAMIC_SIZE, FirstEntriesAreAlike, NumberNameSource, NumbersAreNamedAlike, VersionRecordRead, VersionRecordTable, VisitedRecord, d_tag, d_un, dynamic_at, dynamic_count, dynamic_value, first_that, meetings, named_by, names_version_index, naming_of, p_filesz, p_offset, readings, readings_of, records_in, tagged_row}
use Rattle.elf_model.proofs.VersionLaws.{named-here, named-later, named-none}

-- the record by which a number is named
abbrev record_of : NumberNameSource → Option VisitedRecord
record_of naming = option_map (λ found. found.1) naming.found

-- of visited records the first that names the version index names it, otherwise one of those after
-- them
named-meetings :
    (file : List ℕ) (number : ℕ) (strings : List ℕ) (met : List VisitedRecord) (others : List VersionRecordRead) (rest : List VisitedRecord)
    → record_of (naming_of file number others) ≡ named_by file number rest
    → record_of (naming_of file number (meetings strings met others)) ≡ named_by file number (met ++ rest)
unfolding meetings naming_of
named-meetings file number strings [] others rest alike = alike
named-meetings file number strings (m ∷ met) others rest alike =
    elim (cases_Bool (names_version_index file number m)) [
      | inl names ↦ rw (names, naming_of) (sym (named-here file number m (met ++ rest) names))
      | inr not_names ↦
          rw (not_names, naming_of)
          (named-meetings file number strings met others rest alike ∙ sym (named-later file number m (met ++ rest) not_names))
    ]

-- a walk that ends without a refusal reads the visited records, and no more
readings-met :
    (file : List ℕ) (table : VersionRecordTable) (others : List VersionRecordRead) → (records_in file table).cut ≡ None
    → readings_of file table others ≡ meetings table.strings (records_in file table).met others
unfolding readings_of
readings-met file table others whole = rw (whole, readings_of) refl

-- no record names it in either
named-nowhere : (file : List ℕ) (number : ℕ) → record_of (naming_of file number []) ≡ named_by file number []
unfolding naming_of
named-nowhere file number = sym (named-none file number)

-- the needs alone
needs-alike :
    (file : List ℕ) (number : ℕ) (needs : VersionRecordTable) → (records_in file needs).cut ≡ None
    → record_of (naming_of file number (readings_of file needs [])) ≡ named_by file number ((records_in file needs).met ++ [])
needs-alike file number needs whole =
    rw (readings-met file needs [] whole)
    (named-meetings file number needs.strings (records_in file needs).met [] [] (named-nowhere file number))

pub numbers_are_named_alike : NumbersAreNamedAlike
unfolding readings
numbers_are_named_alike file number definitions needs whole whole_needs =
    let alike : record_of (naming_of file number (readings_of file needs [])) ≡ named_by file number (records_in file needs).met =
    rw (append-nil (records_in file needs).met) at (needs-alike file number needs whole_needs) in
    rw (readings-met file definitions (readings_of file needs []) whole)
    (named-meetings file number definitions.strings (records_in file definitions).met (readings_of file needs []) (records_in file needs).met alike)

first-entry : (at : ℕ) → at ≡ dynamic_at at 0
first-entry at = omega arith

next-entry : (at k : ℕ) → dynamic_at at k + DYNAMIC_SIZE ≡ dynamic_at at (suc k)
next-entry at k = omega arith

-- the value at an index, and at its offset
value-at-place :
    (file : List ℕ) (at : ℕ) (index : Option ℕ)
    → option_map (λ i. d_un file (dynamic_at at i)) index ≡ option_map (d_un file) (option_map (dynamic_at at) index)
value-at-place file at None = refl
value-at-place file at (Some i) = refl

-- the first of some entries with a tag, by its index and by its value
value-of-first :
    (file : List ℕ) (at tag k n : ℕ)
    → dynamic_value file (dynamic_at at k) n tag
    ≡ option_map (λ i. d_un file (dynamic_at at i)) (first_that (λ i. d_tag file (dynamic_at at i) == tag) k n)
unfolding dynamic_value first_that
value-of-first file at tag k zero = refl
value-of-first file at tag k (suc n) =
    elim (cases_Bool (d_tag file (dynamic_at at k) == tag)) [
      | inl has ↦ rw (has, dynamic_value, first_that) refl
      | inr has_not ↦
          rw (has_not, dynamic_value, first_that)
          (ap (λ place. dynamic_value file place n tag) (next-entry at k) ∙ value-of-first file at tag (suc k) n)
    ]

pub first_entries_are_alike : FirstEntriesAreAlike
unfolding tagged_row
first_entries_are_alike file at tag =
    let place = p_offset file at in
    let count = dynamic_count file place (p_filesz file at / DYNAMIC_SIZE) in
    ap (λ start. dynamic_value file start count tag) (first-entry place)
    ∙ value-of-first file place tag 0 count
    ∙ value-at-place file place (first_that (λ i. d_tag file (dynamic_at place i) == tag) 0 count)
