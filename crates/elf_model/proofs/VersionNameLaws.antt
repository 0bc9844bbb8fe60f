-- If the rows of definitions and needs have no fault, the name of each version index is shown.
use Rattle.std.proofs.Common.{◌≡◌, ℕ, zero, suc, ◌+◌, ◌<◌, ◌≤◌, ◌==◌, nat_lt, Bool, true, false, if◌then◌else◌, List, [], ◌∷◌, ◌++◌, All, Option, None, Some, Result, Ok, Err, refl, sym, ◌∙◌, arith, inl, inr}
use Rattle.std.proofs.lemmas.Bool.{cases_Bool}
use Rattle.std.proofs.lemmas.List.Elements.{All-nil, All-cons, All-head, All-tail, All-append}
use Rattle.std.specs.Result.{is_ok}
use Rattle.elf_model.specs.Prelude.{Check, DisplayedName, Fault, Line, LinePrefix, ListingItem, ListingStyle, NamesOfNumbersAreShown, RecordCursorState, RowFilter, SHT_GNU_VERDEF, SHT_GNU_VERNEED, TableKind, VisitedRecord, all_checks, along, along_needs, chosen_row, e_shnum, each, end_rows, fault_of, file_sections, first_of_type, first_position, first_refusal, first_strings, first_versions, guarded, header_field, kinds_rows, max_records, name_index, named_at, named_by, names_version_index, next_position, next_word, place_of_version, placed_choice, record_checks, records_rows, section_at, section_versions, sh_offset, sh_size, sh_type, shown, strings_of, table_rows, version_definitions, version_named, version_needs, version_of, version_row, version_strings, versions_in, versions_rows, visited_at, visited_from, visited_rows, vn_aux, vn_next}
use Rattle.elf_model.specs.declared.causes.Cause.{Cause}
use Rattle.elf_model.specs.declared.versions.VersionKind.TheVariants.{Definition, File, Need}
use Rattle.elf_model.specs.declared.causes.Refusal.{Refusal}
use Rattle.elf_model.specs.declared.versions.VersionKind.{VersionKind}
use Rattle.elf_model.proofs.LookupSteps.{first_that-holds}
use Rattle.elf_model.proofs.ListingLemmas.{listings_append}
use Rattle.elf_model.proofs.VersionLaws.{named-here, named-later, named-none}
use Rattle.elf_model.proofs.VersionSteps.{met-ended, met-most, met-record, met-refused}

-- items without a fault have none in their parts
pub front-none : (front back : List ListingItem) → fault_of (front ++ back) ≡ None → fault_of front ≡ None
front-none [] back h = refl
front-none (Line text ∷ front) back h = front-none front back h
front-none (Fault refusal ∷ front) back h = cc

pub back-none : (front back : List ListingItem) → fault_of (front ++ back) ≡ None → fault_of back ≡ None
back-none front back h = sym (listings_append front back (front-none front back h)).1 ∙ h

pub each-none : (row : ℕ → List ListingItem) (first count i : ℕ) → fault_of (each row first count) ≡ None → first ≤ i → i < first + count → fault_of (row i) ≡ None
unfolding each
each-none row first zero i h low high = absurd (omega arith)
each-none row first (suc count) i h low high =
    elim (cases_Bool (first == i)) [
      | inl same ↦ let e : first ≡ i = grind arith in rw (← e) (front-none (row first) (each row (suc first) count) h)
      | inr other ↦ each-none row (suc first) count i (back-none (row first) (each row (suc first) count) h) (grind arith) (omega arith)
    ]

-- after checks that have none
guarded-none : (checks : List Check) (members : List ListingItem) → fault_of (guarded checks members) ≡ None → fault_of members ≡ None
guarded-none checks members h = by_first (first_refusal checks) h
  where
    by_first : (first : Option Refusal)
        → fault_of (elim first as (λ _. List ListingItem) [ None ↦ members | Some refusal ↦ Fault refusal ∷ [] ]) ≡ None → fault_of members ≡ None
    by_first None h = h
    by_first (Some refusal) h = cc

table-none : (kind : TableKind) (file : List ℕ) (style : ListingStyle) (index at : ℕ) → kind.has_table file at ≡ true
    → fault_of (table_rows kind file style index at) ≡ None → fault_of (kind.rows file style index at) ≡ None
unfolding table_rows
table-none kind file style index at has h =
    guarded-none (all_checks kind.checks file at) (kind.rows file style index at) (rw (has, table_rows) at h)

-- the name of a row without a fault is shown
row-shown : (choice : RowFilter) (front : LinePrefix) (at : ℕ) (name : Result DisplayedName Cause) → fault_of (chosen_row choice front at name) ≡ None → is_ok name ≡ true
row-shown choice front at (Ok name) h = refl
row-shown choice front at (Err cause) h = cc

-- the name of a record is shown, in some strings
abbrev IsShown : List ℕ → ℕ → List ℕ → VisitedRecord → Type 0
IsShown file cap strings met = is_ok (shown strings (name_index file met) cap) ≡ true

rows-shown : (file : List ℕ) (style : ListingStyle) (section : ℕ) (strings : List ℕ) (records : List VisitedRecord)
    → fault_of (visited_rows file style section strings records) ≡ None → All (IsShown file style.cap strings) records
unfolding visited_rows version_row
rows-shown file style section strings [] h = All-nil _
rows-shown file style section strings (met ∷ others) h =
    let row : List ListingItem = version_row file style section strings met in
    let more : List ListingItem = visited_rows file style section strings others in
    All-cons (IsShown file style.cap strings) met others (row-shown (placed_choice style (place_of_version file met) style.choice) _ (named_at file met) _ (front-none row more h))
    (rows-shown file style section strings others (back-none row more h))

met-none : (kind : VersionKind) (file : List ℕ) (style : ListingStyle) (section at : ℕ) → fault_of (versions_rows kind file style section at) ≡ None
    → fault_of (visited_rows file style section (strings_of file at) (section_versions kind file at).met) ≡ None
unfolding versions_rows
met-none kind file style section at h =
    front-none (visited_rows file style section (strings_of file at) (section_versions kind file at).met) (end_rows (section_versions kind file at).cut) h

-- the records of a table of definitions are definitions; those of a table of needs are none
abbrev pub IsDefinition : VersionKind → Bool
IsDefinition Definition = true
IsDefinition File = false
IsDefinition Need = false

abbrev StandsOn : Bool → Option RecordCursorState → Type 0
StandsOn definition None = Unit {0}
StandsOn definition (Some stand) = IsDefinition stand.kind ≡ definition

-- a walk that is at one kind of record goes on to that kind
along-is_at : (definition : Bool) (table : ℕ) (kind : VersionKind) (place distance owner : ℕ) → IsDefinition kind ≡ definition
    → StandsOn definition (along table kind place distance owner)
along-is_at definition table kind place distance owner is = by_end (distance == 0)
  where
    by_end : (ends : Bool)
        → StandsOn definition (if ends then None else Some (record { kind = kind; place = place + distance; from = table + place; owner = owner }))
    by_end true = tt
    by_end false = is

needs-stand : (table place distance owner files : ℕ) → StandsOn false (along_needs table place distance owner files)
needs-stand table place distance owner files = by_end (distance == 0)
  where
    by_end : (ends : Bool) → StandsOn false (if ends then along table File owner files 0 else along table Need place distance owner)
    by_end true = along-is_at false table File owner files 0 refl
    by_end false = along-is_at false table Need place distance owner refl

behind-is_at : (file : List ℕ) (table : ℕ) (stand : RecordCursorState) → StandsOn (IsDefinition stand.kind) (next_position file table stand)
unfolding next_position
behind-is_at file table stand = by_kind stand.kind
  where
    by_kind : (kind : VersionKind) → StandsOn (IsDefinition kind) (elim kind as (λ _. Option RecordCursorState) [
      | Definition ↦ along table Definition stand.place (next_word file (visited_at table stand)) 0
      | File ↦ Some (record { kind = Need; place = stand.place + vn_aux file (table + stand.place); from = table + stand.place; owner = stand.place })
      | Need ↦ along_needs table stand.place (next_word file (visited_at table stand)) stand.owner (vn_next file (table + stand.owner))
    ])
    by_kind Definition = along-is_at true table Definition stand.place (next_word file (visited_at table stand)) 0 refl
    by_kind File = refl
    by_kind Need = needs-stand table stand.place (next_word file (visited_at table stand)) stand.owner (vn_next file (table + stand.owner))

-- so all records of a table are of one kind
of-one-kind : (file : List ℕ) (table size most : ℕ) (stand : Option RecordCursorState) (definition : Bool) → StandsOn definition stand
    → All (λ (m : VisitedRecord). IsDefinition m.kind ≡ definition) (visited_from file table size stand most).met
of-one-kind file table size most None definition is = rw (met-ended file table size most) (All-nil _)
of-one-kind file table size zero (Some stand) definition is = rw (met-most file table size stand) (All-nil _)
of-one-kind file table size (suc most) (Some stand) definition is =
    let next : StandsOn definition (next_position file table stand) = rw is at (behind-is_at file table stand) in
    go (of-one-kind file table size most (next_position file table stand) definition next) (first_refusal (record_checks file table size stand)) refl
  where
    go : All (λ (m : VisitedRecord). IsDefinition m.kind ≡ definition) (visited_from file table size (next_position file table stand) most).met
        → (refusal : Option Refusal) → first_refusal (record_checks file table size stand) ≡ refusal
        → All (λ (m : VisitedRecord). IsDefinition m.kind ≡ definition) (visited_from file table size (Some stand) (suc most)).met
    go more (Some refusal) h = rw (met-refused file table size stand most refusal h) (All-nil _)
    go more None h =
        rw (met-record file table size stand most h)
        (All-cons (λ (m : VisitedRecord). IsDefinition m.kind ≡ definition) (visited_at table stand) (visited_from file table size (next_position file table stand) most).met is more)

first-is_at : (kind : VersionKind) (head size : ℕ) → StandsOn (IsDefinition kind) (first_position kind head size)
first-is_at kind head size = by_size (size == 0)
  where
    by_size : (empty : Bool) → StandsOn (IsDefinition kind) (if empty then None else Some (record { kind = kind; place = 0; from = head; owner = 0 }))
    by_size true = tt
    by_size false = refl

pub table-kinds : (kind : VersionKind) (file : List ℕ) (at : ℕ)
    → All (λ (m : VisitedRecord). IsDefinition m.kind ≡ IsDefinition kind) (section_versions kind file at).met
unfolding versions_in
table-kinds kind file at =
    of-one-kind file (sh_offset file at) (sh_size file at) (max_records kind (sh_size file at)) (first_position kind at (sh_size file at)) (IsDefinition kind)
    (first-is_at kind at (sh_size file at))

-- the strings of their names
strings-are : (file : List ℕ) (kind other : VersionKind) → IsDefinition kind ≡ IsDefinition other → version_strings file kind ≡ version_strings file other
unfolding version_strings
strings-are file Definition Definition is = refl
strings-are file Definition File is = cc
strings-are file Definition Need is = cc
strings-are file File Definition is = cc
strings-are file File File is = refl
strings-are file File Need is = refl
strings-are file Need Definition is = cc
strings-are file Need File is = refl
strings-are file Need Need is = refl

-- the name of a record is shown, in the strings of its kind
abbrev IsNulTerminatedAt : List ℕ → ℕ → VisitedRecord → Type 0
IsNulTerminatedAt file cap met = is_ok (shown (version_strings file met.kind) (name_index file met) cap) ≡ true

both-named : (file : List ℕ) (cap : ℕ) (kind : VersionKind) (records : List VisitedRecord) → All (IsShown file cap (version_strings file kind)) records
    → All (λ (m : VisitedRecord). IsDefinition m.kind ≡ IsDefinition kind) records → All (IsNulTerminatedAt file cap) records
both-named file cap kind [] shown_ kinds = All-nil _
both-named file cap kind (met ∷ others) shown_ kinds =
    let same = strings-are file met.kind kind (All-head (λ (m : VisitedRecord). IsDefinition m.kind ≡ IsDefinition kind) met others kinds) in
    All-cons (IsNulTerminatedAt file cap) met others (rw same (All-head (IsShown file cap (version_strings file kind)) met others shown_))
    (both-named file cap kind others (All-tail (IsShown file cap (version_strings file kind)) met others shown_)
    (All-tail (λ (m : VisitedRecord). IsDefinition m.kind ≡ IsDefinition kind) met others kinds))

-- the records of the first section of a type, if the rows of all such sections have no fault
module _ (file : List ℕ) (style : ListingStyle) (kind : VersionKind) (type : ℕ) (table : TableKind)
    (is_typed : (at : ℕ) → table.has_table file at ≡ (sh_type file at == type)) (is_listed : (i at : ℕ) → table.rows file style i at ≡ versions_rows kind file style i at)
    (strings : version_strings file kind ≡ first_strings type file)
    (no_fault : fault_of (each (λ i. table_rows table file style i (section_at file i)) 0 (e_shnum file)) ≡ None) where
  first-named : All (IsNulTerminatedAt file style.cap) (first_versions kind type file)
  first-named = by_found (first_of_type file type) refl
    where
      by_found : (found : Option ℕ) → first_of_type file type ≡ found
          → All (IsNulTerminatedAt file style.cap) (elim found as (λ _. List VisitedRecord) [ None ↦ [] | Some i ↦ (section_versions kind file (section_at file i)).met ])
      by_found None f = All-nil _
      by_found (Some i) f =
          let at : ℕ = section_at file i in
          let there = first_that-holds (λ i. header_field (file_sections file) sh_type i == type) 0 (e_shnum file) i f in
          let row = each-none (λ i. table_rows table file style i (section_at file i)) 0 (e_shnum file) i no_fault there.1 there.2 in
          let rows : fault_of (versions_rows kind file style i at) ≡ None =
          rw (is_listed i at) at (table-none table file style i at (is_typed at ∙ there.0) row) in
          let told : strings_of file at ≡ version_strings file kind = sym (strings ∙ rw (f, first_strings) refl) in
          let all = rows-shown file style i (strings_of file at) (section_versions kind file at).met (met-none kind file style i at rows) in
          both-named file style.cap kind (section_versions kind file at).met (rw told at all) (table-kinds kind file at)

-- a record that names a version index is one of those
pub named-is : (file : List ℕ) (number : ℕ) (P : VisitedRecord → Type 0) (records : List VisitedRecord) (met : VisitedRecord) → All P records → named_by file number records ≡ Some met → P met
named-is file number P [] met all e = let n = named-none file number in absurd (cc)
named-is file number P (first ∷ records) met all e =
    elim (cases_Bool (names_version_index file number first)) [
      | inl here ↦
          let h = named-here file number first records here in
          let same : first ≡ met = cc in
          rw (← same) (All-head P first records all)
      | inr later ↦ named-is file number P records met (All-tail P first records all) (sym (named-later file number first records later) ∙ e)
    ]

version-is : (file : List ℕ) (number : ℕ) (P : VisitedRecord → Type 0) (first second : List VisitedRecord) (met : VisitedRecord) → All P first → All P second
    → version_of file first second number ≡ Some met → P met
unfolding version_of
version-is file number P first second met a b e = by_size (nat_lt number 2) e
  where
    by_size : (few : Bool) → (if few then None else named_by file number (first ++ second)) ≡ Some met → P met
    by_size true e = cc
    by_size false e = named-is file number P (first ++ second) met (All-append P first second a b) e

-- rows of the definitions and of the needs without a fault
pub records-none : (file : List ℕ) (style : ListingStyle)
    → fault_of (each (λ i. table_rows version_definitions file style i (section_at file i)) 0 (e_shnum file)) ≡ None
    → fault_of (each (λ i. table_rows version_needs file style i (section_at file i)) 0 (e_shnum file)) ≡ None
    → fault_of (records_rows file style) ≡ None
unfolding kinds_rows version_definitions version_needs
records-none file style definitions needs =
    let first : List ListingItem = each (λ i. table_rows version_definitions file style i (section_at file i)) 0 (e_shnum file) in
    let second : List ListingItem = each (λ i. table_rows version_needs file style i (section_at file i)) 0 (e_shnum file) in
    (listings_append first (second ++ []) definitions).1 ∙ (listings_append second [] needs).1

strings-definition : (file : List ℕ) → version_strings file Definition ≡ first_strings SHT_GNU_VERDEF file
unfolding version_strings
strings-definition file = refl

strings-need : (file : List ℕ) → version_strings file File ≡ first_strings SHT_GNU_VERNEED file
unfolding version_strings
strings-need file = refl

pub names_are_shown : NamesOfNumbersAreShown
unfolding version_named kinds_rows version_definitions version_needs
names_are_shown file style number met h named =
    let first : List ListingItem = each (λ i. table_rows version_definitions file style i (section_at file i)) 0 (e_shnum file) in
    let second : List ListingItem = each (λ i. table_rows version_needs file style i (section_at file i)) 0 (e_shnum file) in
    let definitions = first-named file style Definition SHT_GNU_VERDEF version_definitions (λ at. refl) (λ i at. refl) (strings-definition file)
    (front-none first (second ++ []) h) in
    let needs = first-named file style File SHT_GNU_VERNEED version_needs (λ at. refl) (λ i at. refl) (strings-need file)
    (front-none second [] (back-none first (second ++ []) h)) in
    version-is file number (IsNulTerminatedAt file style.cap) _ _ met definitions needs named
