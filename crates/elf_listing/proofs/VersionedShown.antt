-- The rows of symbols' versions are those of their version indices' names, if the names of all
-- records are shown.
use Rattle.std.proofs.Common.{◌≡◌, ℕ, zero, suc, ◌+◌, ◌*◌, ◌≤◌, ◌==◌, nat_lt, min, if◌then◌else◌, true, false, inl, inr, List, [], ◌∷◌, ◌++◌, Option, None, Some, Result, Ok, Err, refl, sym, ap, ◌∙◌, arith, append-nil}
use Rattle.std.proofs.lemmas.Bool.{cases_Bool}
use Rattle.std.proofs.lemmas.List.Elements.{All-nil}
use Rattle.std.specs.Prelude.{All}
use Rattle.std.specs.Result.{is_ok}
use Rattle.elf_model.specs.Prelude.{DisplayedName, Fault as FaultItem, LinePrefix, ListingItem, ListingStyle, RowFilter, SHT_GNU_VERDEF, SHT_GNU_VERNEED, TableKind, VERSYM_SIZE, VisitedRecord, all_checks, chosen_row, e_shnum, each, end_rows, entry_count, fault_of, file_sections, first_of_type, first_refusal, first_strings, first_versions, header_field, kinds_rows, name_index, named_at, named_by, number_in, numbered_row, place_of_record, placed_choice, records_rows, refused_row, section_at, section_versions, sh_offset, sh_size, sh_type, shown, strings_of, symbol_version_prefix, symbol_version_row, symbol_version_rows, symbol_versions, table_rows, version_definitions, version_named, version_needs, version_of, version_strings, versioned_symbols, versions_rows, versym, visited_rows}
use Rattle.elf_model.specs.declared.causes.Cause.{Cause}
use Rattle.elf_model.specs.declared.versions.VersionKind.TheVariants.{Definition, File, Need}
use Rattle.elf_model.specs.declared.causes.Refusal.{Refusal}
use Rattle.elf_model.specs.declared.causes.Cause.TheVariants.{VersionCut, VersionIndex}
use Rattle.elf_model.specs.declared.versions.VersionKind.{VersionKind}
use Rattle.elf_model.proofs.VersionNameLaws.{IsDefinition, back-none, each-none, front-none, named-is, names_are_shown, table-kinds}
use Rattle.elf_model.proofs.LookupSteps.{first_that-holds}
use Rattle.elf_note.specs.Prelude.{IsNameOfRecord, name_at}
use Rattle.elf_note.specs.declared.version_names.VersionNameRef.TheVariants.{Defined, Needed, Nowhere}
use Rattle.elf_note.specs.declared.version_names.VersionNameRef.{VersionNameRef}
use Rattle.elf_table.specs.Prelude.{TableRange, stop_of, strings_in}
use Rattle.elf_table.specs.declared.fault.Fault.{Fault}
use Rattle.elf_table.specs.declared.run_fault.RunFault.{RunFault}
use Rattle.elf_table.specs.declared.fault.Fault.TheVariants.{Refused, Source}
use Rattle.elf_source.specs.Prelude.{OutState}
use Rattle.elf_source.specs.declared.source.Source.{Ghosts as Sources}
use Rattle.elf_source.specs.declared.sink.Sink.{Ghosts as Sinks}
use Rattle.elf_listing.specs.Prelude.{AreNumbered, AreRecordsWhole, ListingCalls, ListingReads, NumberedOr, WroteItems, WroteUntilRefusal, WroteUntilStop, reported_row, version_told, versioned_items, walks_refusal}
use Rattle.elf_listing.specs.declared.listing.Listing.{Listing}
use Rattle.elf_listing.specs.declared.numbered.VersionStrings.{VersionStrings}
use Rattle.elf_listing.proofs.ListsLaws.{SameFile-then}
use Rattle.elf_listing.proofs.RowLaws.{Ends-first, WrotePrefix-none}
use Rattle.elf_listing.proofs.ShowLaws.{SpentCredit-then, Whole-none}
use Rattle.elf_listing.proofs.SectionShown.{table_passes}
use Rattle.elf_listing.proofs.FirstTaken.{or-none, walk-whole}

-- rows without a fault have checks that pass, and no record that is refused
passes-none : (checks : Option Refusal) (members : List ListingItem)
    → fault_of (elim checks as (λ _. List ListingItem) [ None ↦ members | Some refusal ↦ FaultItem refusal ∷ [] ]) ≡ None → (checks ≡ None) × (fault_of members ≡ None)
passes-none None members h = (refl, h)
passes-none (Some refusal) members h = cc

cut-none : (cut : Option Refusal) → fault_of (end_rows cut) ≡ None → cut ≡ None
cut-none None h = refl
cut-none (Some refusal) h = cc

section-whole : (kind : VersionKind) (table : TableKind) (file : List ℕ) (style : ListingStyle) (i at : ℕ) → table.has_table file at ≡ true
    → table.rows file style i at ≡ versions_rows kind file style i at → fault_of (table_rows table file style i at) ≡ None
    → (first_refusal (all_checks table.checks file at) ≡ None) × ((section_versions kind file at).cut ≡ None)
unfolding table_rows versions_rows
section-whole kind table file style i at has rows h =
    let passes = passes-none (first_refusal (all_checks table.checks file at)) (table.rows file style i at) (rw (has, table_rows) at h) in
    let none = rw (rows, versions_rows) at passes.1 in
    let versions = section_versions kind file at in
    (passes.0, cut-none versions.cut (back-none (visited_rows file style i (strings_of file at) versions.met) (end_rows versions.cut) none))

pub definitions-whole : (file : List ℕ) (style : ListingStyle) → fault_of (records_rows file style) ≡ None → AreRecordsWhole file Definition
unfolding kinds_rows version_definitions version_needs
definitions-whole file style h = walk-whole Definition SHT_GNU_VERDEF file (λ i first.
    let rows : List ListingItem = each (λ i. table_rows version_definitions file style i (section_at file i)) 0 (e_shnum file) in
    let others : List ListingItem = each (λ i. table_rows version_needs file style i (section_at file i)) 0 (e_shnum file) in
    let there = first_that-holds (λ i. header_field (file_sections file) sh_type i == SHT_GNU_VERDEF) 0 (e_shnum file) i first in
    let row = each-none (λ i. table_rows version_definitions file style i (section_at file i)) 0 (e_shnum file) i (front-none rows (others ++ []) h) there.1 there.2 in
    section-whole Definition version_definitions file style i (section_at file i) there.0 refl row)

pub needs-whole : (file : List ℕ) (style : ListingStyle) → fault_of (records_rows file style) ≡ None → AreRecordsWhole file File
unfolding kinds_rows version_definitions version_needs
needs-whole file style h = walk-whole File SHT_GNU_VERNEED file (λ i first.
    let others : List ListingItem = each (λ i. table_rows version_definitions file style i (section_at file i)) 0 (e_shnum file) in
    let rows : List ListingItem = each (λ i. table_rows version_needs file style i (section_at file i)) 0 (e_shnum file) in
    let there = first_that-holds (λ i. header_field (file_sections file) sh_type i == SHT_GNU_VERNEED) 0 (e_shnum file) i first in
    let row = each-none (λ i. table_rows version_needs file style i (section_at file i)) 0 (e_shnum file) i (front-none rows [] (back-none others (rows ++ []) h)) there.1 there.2 in
    section-whole File version_needs file style i (section_at file i) there.0 refl row)

-- a name that is shown makes one row, wherever its fault would be
shown-anywhere : (choice : RowFilter) (front : LinePrefix) (at other : ℕ) (name : Result DisplayedName Cause) → is_ok name ≡ true → chosen_row choice front at name ≡ chosen_row choice front other name
shown-anywhere choice front at other (Ok name) h = refl
shown-anywhere choice front at other (Err cause) h = cc

-- all records of the first section of a type are of one kind
first-kinds : (kind : VersionKind) (type : ℕ) (file : List ℕ) → All (λ (m : VisitedRecord). IsDefinition m.kind ≡ IsDefinition kind) (first_versions kind type file)
first-kinds kind type file = by_found (first_of_type file type)
  where
    by_found : (found : Option ℕ)
        → All (λ (m : VisitedRecord). IsDefinition m.kind ≡ IsDefinition kind) (elim found as (λ _. List VisitedRecord) [ None ↦ [] | Some i ↦ (section_versions kind file (section_at file i)).met ])
    by_found None = All-nil _
    by_found (Some i) = table-kinds kind file (section_at file i)

-- so a version index that a definition names is not one of the needs, nor the other way round
pub some-definitions : (file : List ℕ) (number : ℕ) (definitions : List VisitedRecord) (met : VisitedRecord) → named_by file number (definitions ++ first_versions File SHT_GNU_VERNEED file) ≡ Some met
    → met.kind ≡ Definition → definitions ≡ [] → ⊥
some-definitions file number definitions met named kind none =
    let needs = first_versions File SHT_GNU_VERNEED file in
    let found : named_by file number needs ≡ Some met = rw none at named in
    let is = named-is file number (λ (m : VisitedRecord). IsDefinition m.kind ≡ false) needs met (first-kinds File SHT_GNU_VERNEED file) found in
    let other = rw kind at is in cc

pub some-needs : (file : List ℕ) (number : ℕ) (needs : List VisitedRecord) (met : VisitedRecord) → named_by file number (first_versions Definition SHT_GNU_VERDEF file ++ needs) ≡ Some met
    → met.kind ≡ Need → needs ≡ [] → ⊥
some-needs file number needs met named kind none =
    let definitions = first_versions Definition SHT_GNU_VERDEF file in
    let found : named_by file number definitions ≡ Some met = ap (named_by file number) (sym (ap (λ (n : List VisitedRecord). definitions ++ n) none ∙ append-nil definitions)) ∙ named in
    let is = named-is file number (λ (m : VisitedRecord). IsDefinition m.kind ≡ true) definitions met (first-kinds Definition SHT_GNU_VERDEF file) found in
    let other = rw kind at is in cc

pub strings-defined : (file : List ℕ) (kind : VersionKind) → kind ≡ Definition → version_strings file kind ≡ first_strings SHT_GNU_VERDEF file
unfolding version_strings
strings-defined file kind is = rw is refl

pub strings-needed : (file : List ℕ) (kind : VersionKind) → kind ≡ Need → version_strings file kind ≡ first_strings SHT_GNU_VERNEED file
unfolding version_strings
strings-needed file kind is = rw is refl

module _ (file : List ℕ) (style : ListingStyle) (numbered : VersionStrings) (places : List ℕ) (are : AreNumbered file numbered places) (no_fault : fault_of (records_rows file style) ≡ None) (front : LinePrefix) (entry number : ℕ) where
  all : List VisitedRecord
  all = first_versions Definition SHT_GNU_VERDEF file ++ first_versions File SHT_GNU_VERNEED file

  abbrev told : VersionNameRef → Result DisplayedName Cause
  told name = elim name [
    | Nowhere ↦ Err VersionIndex
    | Defined index ↦ shown (strings_in file numbered.defined) index style.cap
    | Needed index ↦ shown (strings_in file numbered.needed) index style.cap
  ]

  abbrev listed : Option VisitedRecord → List ListingItem
  listed named = elim named [
    | None ↦ refused_row entry VersionIndex
    | Some met ↦ chosen_row (placed_choice style (place_of_record entry 2) style.choice) front (named_at file met) (shown (version_strings file met.kind) (name_index file met) style.cap)
  ]

  by_name : (few : nat_lt number 2 ≡ false) (named : Option VisitedRecord) → named_by file number all ≡ named → (name : VersionNameRef) → IsNameOfRecord file named name → chosen_row (placed_choice style (place_of_record entry 2) style.choice) front entry (told name) ≡ listed named
  unfolding all version_named version_of
  by_name few None is Nowhere fits = refl
  by_name few None is (Defined index) fits = absurd fits
  by_name few None is (Needed index) fits = absurd fits
  by_name few (Some met) is Nowhere fits = absurd fits
  by_name few (Some met) is (Defined index) fits =
      let strings : strings_in file numbered.defined ≡ version_strings file met.kind =
      are.defined (some-definitions file number (first_versions Definition SHT_GNU_VERDEF file) met is fits.0) ∙ sym (strings-defined file met.kind fits.0) in
      let ok = names_are_shown file style number met no_fault (rw few is) in
      rw (strings, fits.1) (shown-anywhere (placed_choice style (place_of_record entry 2) style.choice) front entry (named_at file met) _ ok)
  by_name few (Some met) is (Needed index) fits =
      let strings : strings_in file numbered.needed ≡ version_strings file met.kind =
      are.needed (some-needs file number (first_versions File SHT_GNU_VERNEED file) met is fits.0) ∙ sym (strings-needed file met.kind fits.0) in
      let ok = names_are_shown file style number met no_fault (rw few is) in
      rw (strings, fits.1) (shown-anywhere (placed_choice style (place_of_record entry 2) style.choice) front entry (named_at file met) _ ok)

  pub number-is : chosen_row (placed_choice style (place_of_record entry 2) style.choice) front entry (version_told numbered file style.cap number) ≡ numbered_row file style front entry number
  unfolding version_told numbered_row version_named version_of all
  number-is = elim (cases_Bool (nat_lt number 2)) [
    | inl few ↦ rw few refl
    | inr many ↦ rw many (by_name many (named_by file number all) refl (name_at numbered.names number) (are.names.named number))
  ]

-- the row of an entry
pub entry-is : (file : List ℕ) (style : ListingStyle) (numbered : VersionStrings) (places : List ℕ) → AreNumbered file numbered places → fault_of (records_rows file style) ≡ None → (section at index : ℕ)
    → reported_row file style numbered section (sh_offset file at + index * VERSYM_SIZE) index ≡ symbol_version_row file style section at index
unfolding reported_row symbol_version_row
entry-is file style numbered places are no_fault section at index =
    let place : sh_offset file at + index * 2 ≡ sh_offset file at + 2 * index = omega arith in
    rw place
    (number-is file style numbered places are no_fault (symbol_version_prefix style.format section index (versym file (sh_offset file at + 2 * index))) (sh_offset file at + 2 * index)
    (number_in (versym file (sh_offset file at + 2 * index))))

each-equal : (row other : ℕ → List ListingItem) (first count : ℕ) → ((i : ℕ) → row i ≡ other i) → each row first count ≡ each other first count
unfolding each
each-equal row other first zero same = refl
each-equal row other first (suc count) same = let one = same first in let more = each-equal row other (suc first) count same in cc

-- the rows of a section
pub rows-are : (file : List ℕ) (style : ListingStyle) (numbered : VersionStrings) (places : List ℕ) → AreNumbered file numbered places → fault_of (records_rows file style) ≡ None
    → (section at : ℕ) (table : TableRange) (symbols : ℕ) → (sh_size file at == 0) ≡ false → table.at ≡ sh_offset file at → table.count ≡ entry_count file at VERSYM_SIZE
    → symbols ≡ versioned_symbols file at
    → symbol_version_rows file style section at ≡ versioned_items file style numbered section table symbols at
unfolding symbol_version_rows versioned_items
rows-are file style numbered places are no_fault section at table symbols some place count linked =
    rw (some, place, count, linked)
    (ap (λ (rows : List ListingItem). rows ++ (if nat_lt (entry_count file at VERSYM_SIZE) (versioned_symbols file at) then refused_row at VersionCut else []))
    (sym (each-equal (λ i. reported_row file style numbered section (sh_offset file at + i * VERSYM_SIZE) i) (symbol_version_row file style section at) 0
    (min (entry_count file at VERSYM_SIZE) (versioned_symbols file at)) (entry-is file style numbered places are no_fault section at))))

-- a call that writes after one that reads, in a bound on both
pub ListingCalls-after : {S W X Y : Type 0} {s : Sources S} {w : Sinks W} (a b c : Listing S W s w) (y : Y) (result : Result X RunFault) (n m k : ℕ) (read shown : Type 0)
    → n + m ≤ k → ListingReads a b (Ok y) n → ListingCalls b c result m read → shown → ListingCalls a c result k shown
ListingCalls-after a b c y result n m k read shown within p q is = record {
  grows = rw (← p.1) q.grows;
  keeps = SameFile-then p.0 q.keeps;
  spent = SpentCredit-then _ _ _ _ _ _ _ _ _ _ _ within p.2 q.spent;
  shows = is;
}

-- a fault that is not a check's stops before all items
pub WroteUntilStop-no-check : (file : List ℕ) (places : List ℕ) (a : OutState) (fault : Fault) (all : List ListingItem) → walks_refusal file ≡ None
    → NumberedOr file places (Err fault) → WroteUntilStop a a (stop_of fault) all
WroteUntilStop-no-check file places a (Refused refusal) all none is = Ends-first a refusal all (λ other. let some = is other in cc)
WroteUntilStop-no-check file places a (Source fault at) all none is = WrotePrefix-none a all

pub walks-whole : (file : List ℕ) → AreRecordsWhole file Definition → AreRecordsWhole file File → walks_refusal file ≡ None
walks-whole file definitions needs = or-none _ _ None definitions needs

-- the refusal after rows that were written
pub Ends-after : (a b : OutState) (refusal : Refusal) (rows : List ListingItem) → WroteItems a b rows → WroteUntilRefusal a b refusal (rows ++ FaultItem refusal ∷ [])
Ends-after a b refusal rows wrote = record {
  front = record { front = rows; rest = FaultItem refusal ∷ []; split = refl; takes = wrote.takes; no_fault = wrote.no_fault };
  next = λ other. record { later = []; is_next = refl };
}

-- those of an empty section
pub empty-is : (file : List ℕ) (style : ListingStyle) (section : ℕ) (a : OutState) (at : ℕ) → symbol_versions.has_table file at ≡ true → sh_size file at ≡ 0
    → WroteItems a a (table_rows symbol_versions file style section at)
unfolding symbol_versions symbol_version_rows
empty-is file style section a at has empty = rw (table_passes symbol_versions file style section at has (rw empty refl)) (rw empty (Whole-none a))
