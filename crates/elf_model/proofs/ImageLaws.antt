-- Laws of images.
use Rattle.std.proofs.Common.{◌≡◌, ℕ, ◌+◌, ◌-◌, ◌%◌, ◌^◌, ◌≤◌, ◌==◌, ◌&&◌, ◌||◌, not, nat_lt, nat_le, get_or, inl, inr, Bool, true, false, List, [], ◌∷◌, ◌++◌, length, map, filter, flat_map, All, Option, None, Some, Result, Ok, Err, refl, sym, ap, subst, ◌∙◌, arith}
use Rattle.std.specs.Prelude.{option_to_list}
use Rattle.std.specs.List.{list_any}
use Rattle.std.proofs.lemmas.Bool.{cases_Bool, and_parts, eqb-true, leb-true, ltb-false, ltb-true, not-true, or_parts}
use Rattle.std.proofs.lemmas.List.Elements.{All-nil, All-cons, All-append, All-head, All-tail}
use Rattle.elf_model.specs.Prelude.{AllInside, IsInside, StoredBytes, byte_after, byte_with, dynamic_segment_index, e_phnum, patched, without_sections, first_refusal, little, p_memsz, p_type, p_vaddr, r_offset, r_type, segment_at}
use Rattle.elf_model.specs.Numbers.{DT_RELACOUNT, PT_LOAD, R_X86_64_NONE, R_X86_64_RELATIVE}
use Rattle.elf_model.specs.Checks.{Check, refuse}
use Rattle.elf_model.specs.ImageChecks.{linkage_table, image_checks, rela_table, relative_table, requested_checks, row_value}
use Rattle.elf_model.specs.Image.{ImageChange, ImageSource, Keeps, Lacks, Refuses, RelativeAddress, SegmentWrite, Stores, and_writes, change_by, change_of_type, direct_change, direct_changes, entry_change, entry_ranges, has_table, holder_of, holds_in_memory, image_changes, is_lack, is_resolved, meets_rows, place_checks, image, image_by_segments, range_changes, read_addresses, relative_changes, relocated_segment, relocation_changes, resolved_changes, stored_at, stored_in, table_addresses, unrelocated, word_before, writes_of}
use Rattle.elf_model.specs.ImageValues.{changed_size, dynamic_symbol_checks, dynamic_type, entry_symbol, stored_bytes}
use Rattle.elf_model.specs.RelativeRelocations.{LAST_ADDRESS}
use Rattle.elf_model.specs.ImageItems.{ItemValues}
use Rattle.elf_model.specs.ImageLaws.{IsElsewhere, OthersAreKept, TablesAreKept, UnlinkedIsKept, UnwrittenIsKept, WindowsAreParts, WritesAreInside}
use Rattle.elf_model.specs.TraitNumbers.{PF_W}
use Rattle.elf_model.specs.Traits.{has_text_relocations, permits}
use Rattle.elf_model.specs.declared.causes.Cause.TheVariants.{PlaceOutside, Relr, TableWritten}
use Rattle.elf_model.specs.declared.causes.Cause.{Cause}
use Rattle.elf_model.specs.declared.causes.Refusal.{Refusal}
use Rattle.elf_model.specs.declared.dynamic_types.DynamicType.{DynamicType}
use Rattle.elf_model.proofs.CheckSteps.{first_refusal-back}
use Rattle.elf_model.proofs.ChangeLaws.{length-little}
use Rattle.elf_model.proofs.ImageValues.{stored_fits}
use Rattle.elf_model.proofs.LookupSteps.{first_that-holds}
use Rattle.elf_model.proofs.PatchLaws.{byte_patched, window_patched}

-- a write is in a segment that may be written, in its bytes, and that has no table
pub record IsAllowed (file : List ℕ) (at : ℕ) (write : SegmentWrite) : Type 0 where
  pub within : write.stored.at + length write.stored.bytes ≤ p_memsz file (segment_at file write.segment)
  pub writable : (permits file PF_W write.segment || has_text_relocations file) ≡ true
  pub tableless : list_any (has_table file write.segment) (read_addresses file at) ≡ false

pub IsAllowedChange : List ℕ → ℕ → ImageChange → Type 0
IsAllowedChange file at (Stores write) = IsAllowed file at write
IsAllowedChange file at Keeps = Unit {0}
IsAllowedChange file at (Lacks refusal) = Unit {0}
IsAllowedChange file at (Refuses refusal) = Unit {0}

-- a list of checks passes if the first does, and the others
pub passes_first : (check : Check) (checks : List Check) → first_refusal (check ∷ checks) ≡ None → (check.fails ≡ false) × (first_refusal checks ≡ None)
passes_first check checks e = elim (cases_Bool check.fails) [
  | inl fails ↦ let f = rw fails at e in absurd (cc)
  | inr passes ↦ (passes, rw passes at e)
]

pub true_if_not_false : (b : Bool) → not b ≡ false → b ≡ true
true_if_not_false true e = refl
true_if_not_false false e = absurd (cc)

module _ (file : List ℕ) (at refused address size : ℕ) where
  place_allowed : (bytes : List ℕ) (found : Option ℕ) → holder_of file address size ≡ found → first_refusal (place_checks file at refused address size) ≡ None
      → length bytes ≤ size → IsAllowedChange file at (stored_at file address size bytes)
  unfolding place_checks stored_at IsAllowedChange holder_of
  place_allowed bytes None e passes fits = let f = rw (e, place_checks) at passes in absurd (cc)
  place_allowed bytes (Some i) e passes fits =
      let f = rw (e, place_checks) at passes in
      let outside = refuse (not (permits file PF_W i || has_text_relocations file)) refused PlaceOutside in
      let written = refuse (list_any (has_table file i) (read_addresses file at) || meets_rows file at address size) refused TableWritten in
      let first = passes_first outside (written ∷ []) f in
      let second = passes_first written [] first.1 in
      let held = first_that-holds (λ i. holds_in_memory file (segment_at file i) address size) 0 (e_phnum file) i e in
      let vaddr = p_vaddr file (segment_at file i) in
      let last = p_vaddr file (segment_at file i) + p_memsz file (segment_at file i) in
      let parts = and_parts ((p_type file (segment_at file i) == PT_LOAD) && not (nat_lt address vaddr)) (not (nat_lt last (address + size))) held.0 in
      let low = ltb-false address vaddr (not-true _ (and_parts (p_type file (segment_at file i) == PT_LOAD) (not (nat_lt address vaddr)) parts.0).1) in
      let high = ltb-false last (address + size) (not-true _ parts.1) in
      rw (e, stored_at) (record {
        within = omega (arith, fits, low, high);
        writable = true_if_not_false (permits file PF_W i || has_text_relocations file) first.0;
        tableless = (or_parts (list_any (has_table file i) (read_addresses file at)) (meets_rows file at address size) second.0).0;
      })

module _ (source : ImageSource) where
  abbrev Allowed : ImageChange → Type 0
  Allowed = IsAllowedChange source.file source.at

  refused_allowed : (refusal : Refusal) → Allowed (Refuses refusal)
  unfolding IsAllowedChange
  refused_allowed refusal = tt

  -- relative relocations
  relative_at : (row : RelativeAddress) (rows : List RelativeAddress) (low address : ℕ) (refusal : Option Refusal)
      → first_refusal (refuse (nat_lt LAST_ADDRESS address || nat_lt address low) row.word_at Relr ∷ place_checks source.file source.at row.word_at address 8) ≡ refusal
      → row.address ≡ Some address → All Allowed (relative_changes source (address + 8) rows) → All Allowed (relative_changes source low (row ∷ rows))
  unfolding relative_changes
  relative_at row rows low address (Some refusal) e has others =
      rw (has, relative_changes) (rw (e, relative_changes) (All-cons Allowed (Refuses refusal) [] (refused_allowed refusal) (All-nil Allowed)))
  relative_at row rows low address None e has others =
      let passes = (passes_first (refuse (nat_lt LAST_ADDRESS address || nat_lt address low) row.word_at Relr) (place_checks source.file source.at row.word_at address 8) e).1 in
      let bytes = little 8 ((word_before source.whole source.file address + source.items.base) % 2 ^ 64) in
      let long = length-little 8 ((word_before source.whole source.file address + source.items.base) % 2 ^ 64) in
      rw (has, relative_changes) (rw (e, relative_changes) (All-cons Allowed (stored_at source.file address 8 bytes) (relative_changes source (address + 8) rows)
      (place_allowed source.file source.at row.word_at address 8 bytes (holder_of source.file address 8) refl passes (omega (arith, long))) others))

  relative_row : (row : RelativeAddress) (rows : List RelativeAddress) (low : ℕ) (address : Option ℕ) → row.address ≡ address
      → ((next : ℕ) → All Allowed (relative_changes source next rows)) → All Allowed (relative_changes source low (row ∷ rows))
  unfolding relative_changes
  relative_row row rows low None has others = rw (has, relative_changes) (All-cons Allowed (Refuses (record { at = row.word_at; cause = Relr })) [] (refused_allowed _) (All-nil Allowed))
  relative_row row rows low (Some address) has others = relative_at row rows low address _ refl has (others (address + 8))

  relative_allowed : (low : ℕ) (rows : List RelativeAddress) → All Allowed (relative_changes source low rows)
  unfolding relative_changes
  relative_allowed low [] = All-nil Allowed
  relative_allowed low (row ∷ rows) = relative_row row rows low row.address refl (λ next. relative_allowed next rows)

  -- an entry
  kept_allowed : Allowed Keeps
  unfolding IsAllowedChange
  kept_allowed = tt

  lack_allowed : (rela : ℕ) (cause : Cause) (lacks : Bool)
      → Allowed (elim lacks [ true ↦ Lacks (record { at = rela; cause = cause }) | false ↦ Refuses (record { at = rela; cause = cause }) ])
  unfolding IsAllowedChange
  lack_allowed rela cause true = tt
  lack_allowed rela cause false = tt

  by_allowed : (rela size : ℕ) (found : Result (List ℕ) Cause) → first_refusal (place_checks source.file source.at rela (r_offset source.file rela) size) ≡ None
      → ((bytes : List ℕ) → found ≡ Ok bytes → length bytes ≤ size) → Allowed (change_by source rela size found)
  unfolding change_by
  by_allowed rela size (Ok bytes) passes fits =
      place_allowed source.file source.at rela (r_offset source.file rela) size bytes (holder_of source.file (r_offset source.file rela) size) refl passes (fits bytes refl)
  by_allowed rela size (Err cause) passes fits = lack_allowed rela cause (is_lack cause)

  typed_allowed : (rela : ℕ) (type : DynamicType) (refusal : Option Refusal)
      → first_refusal (dynamic_symbol_checks type source.file source.at rela
      ++ place_checks source.file source.at rela (r_offset source.file rela) (changed_size type source.file (entry_symbol source.file source.at rela))) ≡ refusal
      → Allowed (change_of_type source rela (Some type))
  unfolding change_of_type
  typed_allowed rela type (Some refusal) e = rw (e, change_of_type) (refused_allowed refusal)
  typed_allowed rela type None e =
      let symbol = entry_symbol source.file source.at rela in
      let size = changed_size type source.file symbol in
      let passes = first_refusal-back (dynamic_symbol_checks type source.file source.at rela) (place_checks source.file source.at rela (r_offset source.file rela) size) e in
      rw (e, change_of_type) (by_allowed rela size (stored_bytes type source.file source.items rela symbol) passes
      (λ bytes is. stored_fits type source.file source.items rela symbol bytes is))

  type_allowed : (rela : ℕ) (type : Option DynamicType) → Allowed (change_of_type source rela type)
  unfolding change_of_type
  type_allowed rela None = refused_allowed _
  type_allowed rela (Some type) = typed_allowed rela type _ refl

  entry_allowed : (rela : ℕ) → Allowed (entry_change source rela)
  unfolding entry_change
  entry_allowed rela = elim (cases_Bool (r_type source.file rela == R_X86_64_NONE)) [
    | inl none ↦ rw (none, entry_change) kept_allowed
    | inr some ↦ rw (some, entry_change) (type_allowed rela (dynamic_type (r_type source.file rela)))
  ]

  direct_allowed : (relative : Bool) (rela : ℕ) → Allowed (direct_change source relative rela)
  unfolding direct_change
  direct_allowed relative rela = elim (cases_Bool (relative && not (r_type source.file rela == R_X86_64_RELATIVE))) [
    | inl other ↦ rw (other, direct_change) (refused_allowed _)
    | inr fine ↦ elim (cases_Bool (is_resolved source.file rela)) [
      | inl later ↦ rw (fine, direct_change) (rw (later, direct_change) kept_allowed)
      | inr now ↦ rw (fine, direct_change) (rw (now, direct_change) (entry_allowed rela))
    ]
  ]

  directs_allowed : (count : ℕ) (relas : List ℕ) → All Allowed (direct_changes source count relas)
  unfolding direct_changes
  directs_allowed count [] = All-nil Allowed
  directs_allowed count (rela ∷ relas) = All-cons Allowed (direct_change source (nat_lt 0 count) rela) (direct_changes source (count - 1) relas) (direct_allowed (nat_lt 0 count) rela) (directs_allowed (count - 1) relas)

  each_allowed : (relas : List ℕ) → All Allowed (map (entry_change source) relas)
  each_allowed [] = All-nil Allowed
  each_allowed (rela ∷ relas) = All-cons Allowed (entry_change source rela) (map (entry_change source) relas) (entry_allowed rela) (each_allowed relas)

  range_allowed : (count : ℕ) (relas : List ℕ) → All Allowed (range_changes source count relas)
  unfolding resolved_changes
  range_allowed count relas =
      All-append Allowed (direct_changes source count relas) (resolved_changes source relas) (directs_allowed count relas) (each_allowed (filter (is_resolved source.file) relas))

  pub changes_allowed : All Allowed (relocation_changes source)
  unfolding relocation_changes
  changes_allowed =
      let ranges = entry_ranges (rela_table source.file source.at) (linkage_table source.file source.at) in
      let count = row_value source.file source.at DT_RELACOUNT in
      let rows = flat_map (table_addresses source.file) (option_to_list (relative_table source.file source.at)) in
      let first = range_changes source count ranges.0 in
      All-append Allowed (relative_changes source 0 rows ++ first) (range_changes source 0 ranges.1)
      (All-append Allowed (relative_changes source 0 rows) first (relative_allowed 0 rows) (range_allowed count ranges.0)) (range_allowed 0 ranges.1)

-- the writes of changes that are allowed
writes_allowed : (file : List ℕ) (at : ℕ) (partial : Bool) (changes : List ImageChange) (writes : List SegmentWrite)
    → All (IsAllowedChange file at) changes → writes_of partial changes ≡ Ok writes → All (IsAllowed file at) writes
unfolding writes_of IsAllowedChange and_writes
writes_allowed file at partial [] writes all e = let same : [] ≡ writes = cc in rw (← same) (All-nil (IsAllowed file at))
writes_allowed file at partial (Keeps ∷ changes) writes all e =
    writes_allowed file at partial changes writes (All-tail (IsAllowedChange file at) Keeps changes all) e
writes_allowed file at partial (Refuses refusal ∷ changes) writes all e = absurd (cc)
writes_allowed file at true (Lacks refusal ∷ changes) writes all e =
    writes_allowed file at true changes writes (All-tail (IsAllowedChange file at) (Lacks refusal) changes all) e
writes_allowed file at false (Lacks refusal ∷ changes) writes all e = absurd (cc)
writes_allowed file at partial (Stores write ∷ changes) writes all e =
    more (writes_of partial changes) (λ others is. writes_allowed file at partial changes others (All-tail (IsAllowedChange file at) (Stores write) changes all) is) e
  where
    more : (rest : Result (List SegmentWrite) Refusal) → ((others : List SegmentWrite) → rest ≡ Ok others → All (IsAllowed file at) others)
        → and_writes write rest ≡ Ok writes → All (IsAllowed file at) writes
    more (Err refusal) others f = absurd (cc)
    more (Ok rest) others f =
        let same : write ∷ rest ≡ writes = cc in
        rw (← same) (All-cons (IsAllowed file at) write rest (All-head (IsAllowedChange file at) (Stores write) changes all) (others rest refl))

-- those of a file
IsInsideSegment : List ℕ → SegmentWrite → Type 0
IsInsideSegment file write = write.stored.at + length write.stored.bytes ≤ p_memsz file (segment_at file write.segment)

IsPermitted : List ℕ → SegmentWrite → Type 0
IsPermitted file write = (permits file PF_W write.segment || has_text_relocations file) ≡ true

all_map : {A : Type 0} (P Q : A → Type 0) (xs : List A) → ((x : A) → P x → Q x) → All P xs → All Q xs
all_map P Q [] each all = All-nil Q
all_map P Q (x ∷ xs) each all = All-cons Q x xs (each x (All-head P x xs all)) (all_map P Q xs each (All-tail P x xs all))

module _ (whole file : List ℕ) (items : ItemValues) (partial : Bool) (writes : List SegmentWrite) where
  of_index : (P : SegmentWrite → Type 0) (index : Option ℕ) → dynamic_segment_index file ≡ index
      → ((at : ℕ) (write : SegmentWrite) → IsAllowed file at write → P write)
      → writes_of partial (image_changes whole file items) ≡ Ok writes → All P writes
  unfolding image_changes writes_of
  of_index P None e each is =
      let f = rw (e, image_changes) at is in let same : [] ≡ writes = cc in rw (← same) (All-nil P)
  of_index P (Some index) e each is =
      let at = segment_at file index in
      let source : ImageSource = record { whole = whole; file = file; at = at; items = items } in
      let f = rw (e, image_changes) at is in
      all_map (IsAllowed file at) P writes (each at) (writes_allowed file at partial (relocation_changes source) writes (changes_allowed source) f)

  tables_kept : (index : ℕ) → dynamic_segment_index file ≡ Some index → writes_of partial (image_changes whole file items) ≡ Ok writes
      → All (λ write. list_any (has_table file write.segment) (read_addresses file (segment_at file index)) ≡ false) writes
  unfolding image_changes
  tables_kept index e is =
      let at = segment_at file index in
      let source : ImageSource = record { whole = whole; file = file; at = at; items = items } in
      let f = rw (e, image_changes) at is in
      all_map (IsAllowed file at) (λ write. list_any (has_table file write.segment) (read_addresses file at) ≡ false) writes (λ write allowed. allowed.tableless)
      (writes_allowed file at partial (relocation_changes source) writes (changes_allowed source) f)

pub tables_are_kept : TablesAreKept
tables_are_kept whole file items partial writes index e is = tables_kept whole file items partial writes index e is

-- what is stored in one segment
stored_inside : (file : List ℕ) (segment : ℕ) (writes : List SegmentWrite) → All (IsInsideSegment file) writes
    → AllInside (p_memsz file (segment_at file segment)) (stored_in segment writes)
unfolding stored_in IsInsideSegment
stored_inside file segment [] all = All-nil _
stored_inside file segment (write ∷ writes) all =
    let size = p_memsz file (segment_at file segment) in
    let others = stored_inside file segment writes (All-tail (IsInsideSegment file) write writes all) in
    elim (cases_Bool (write.segment == segment)) [
      | inl same ↦
          let equal : write.segment ≡ segment = eqb-true write.segment segment same in
          let inside : IsInside size write.stored = subst (λ i. write.stored.at + length write.stored.bytes ≤ p_memsz file (segment_at file i)) equal (All-head (IsInsideSegment file) write writes all) in
          rw same (All-cons (IsInside size) write.stored (stored_in segment writes) inside others)
      | inr other ↦ rw other others
    ]

pub writes_are_inside : WritesAreInside
unfolding IsInsideSegment
writes_are_inside whole file items partial writes segment is =
    stored_inside file segment writes (of_index whole file items partial writes (IsInsideSegment file) (dynamic_segment_index file) refl (λ at write allowed. allowed.within) is)

-- nothing is stored in a segment that may not be written
none_stored : (file : List ℕ) (segment : ℕ) (writes : List SegmentWrite) → All (IsPermitted file) writes
    → (permits file PF_W segment || has_text_relocations file) ≡ false → stored_in segment writes ≡ []
unfolding stored_in IsPermitted
none_stored file segment [] all closed = refl
none_stored file segment (write ∷ writes) all closed =
    elim (cases_Bool (write.segment == segment)) [
      | inl same ↦
          let equal : write.segment ≡ segment = eqb-true write.segment segment same in
          let opened : (permits file PF_W segment || has_text_relocations file) ≡ true
          = subst (λ i. (permits file PF_W i || has_text_relocations file) ≡ true) equal (All-head (IsPermitted file) write writes all) in
          absurd (cc)
      | inr other ↦ rw other (none_stored file segment writes (All-tail (IsPermitted file) write writes all) closed)
    ]

-- an image and its writes
pub record HasWrites (whole file : List ℕ) (segment : ℕ) (items : ItemValues) (bytes : List ℕ) : Type 0 where
  pub writes : List SegmentWrite
  pub are : writes_of items.partial (image_changes whole file items) ≡ Ok writes
  pub bytes_are : bytes ≡ relocated_segment whole file segment writes

module _ (whole file : List ℕ) (headers segment most : ℕ) (items : ItemValues) (bytes : List ℕ) where
  after_checks : (refusal : Option Refusal) (behind : Result (List ℕ) Refusal)
      → ◌≡◌ {A = Result (List ℕ) Refusal} (elim refusal [ Some refusal ↦ Err refusal | None ↦ behind ]) (Ok bytes)
      → (refusal ≡ None) × (behind ≡ Ok bytes)
  after_checks (Some refusal) behind e = absurd (cc)
  after_checks None behind e = (refl, e)

  of_writes : (found : Result (List SegmentWrite) Refusal) → writes_of items.partial (image_changes whole file items) ≡ found
      → ◌≡◌ {A = Result (List ℕ) Refusal} (elim found [ Err refusal ↦ Err refusal | Ok writes ↦ Ok (relocated_segment whole file segment writes) ]) (Ok bytes)
      → HasWrites whole file segment items bytes
  of_writes (Err refusal) is e = absurd (cc)
  of_writes (Ok writes) is e = record { writes = writes; are = is; bytes_are = cc }

  pub made : image_by_segments whole file headers segment most items ≡ Ok bytes
      → (first_refusal (image_checks file headers (requested_checks file segment most)) ≡ None) × HasWrites whole file segment items bytes
  unfolding image_by_segments
  made e =
      let f = after_checks (first_refusal (image_checks file headers (requested_checks file segment most)))
      (elim (writes_of items.partial (image_changes whole file items)) [ Err refusal ↦ Err refusal | Ok writes ↦ Ok (relocated_segment whole file segment writes) ]) e in
      (f.0, of_writes (writes_of items.partial (image_changes whole file items)) refl f.1)

pub unwritten_is_kept : UnwrittenIsKept
unfolding image relocated_segment patched IsPermitted
unwritten_is_kept whole headers segment most items bytes e closed =
    let file = without_sections whole in
    let m = made whole file headers segment most items bytes e in
    let writes = m.1.writes in
    let permitted = of_index whole file items items.partial writes (IsPermitted file) (dynamic_segment_index file) refl (λ at write allowed. allowed.writable) m.1.are in
    let none = none_stored file segment writes permitted closed in
    m.1.bytes_are ∙ ap (λ stored. patched stored (unrelocated whole file (segment_at file segment))) none

pub unlinked_is_kept : UnlinkedIsKept
unfolding image image_changes writes_of relocated_segment stored_in patched
unlinked_is_kept whole headers segment most items bytes e none =
    let file = without_sections whole in
    let m = made whole file headers segment most items bytes e in
    let writes = m.1.writes in
    let f = rw (none, image_changes) at m.1.are in
    let same : [] ≡ writes = cc in
    m.1.bytes_are ∙ ap (λ writes. patched (stored_in segment writes) (unrelocated whole file (segment_at file segment))) (sym same)

-- bytes elsewhere
kept_after : (stored : List StoredBytes) (i byte : ℕ) → All (IsElsewhere i) stored → byte_after stored i byte ≡ byte
unfolding byte_after byte_with
kept_after [] i byte all = refl
kept_after (patch ∷ patches) i byte all =
    let away = All-head (IsElsewhere i) patch patches all in
    elim (cases_Bool (nat_le patch.at i && nat_lt i (patch.at + length patch.bytes))) [
      | inl here ↦
          let parts = and_parts (nat_le patch.at i) (nat_lt i (patch.at + length patch.bytes)) here in
          absurd (away (leb-true patch.at i parts.0) (ltb-true i (patch.at + length patch.bytes) parts.1))
      | inr there ↦ rw there (kept_after patches i byte (All-tail (IsElsewhere i) patch patches all))
    ]

pub others_are_kept : OthersAreKept
others_are_kept base stored i inside all = byte_patched stored base i inside ∙ kept_after stored i (get_or base i 0) all

pub windows_are_parts : WindowsAreParts
unfolding relocated_segment
windows_are_parts whole file segment low n writes inside fits =
    window_patched (stored_in segment writes) (unrelocated whole file (segment_at file segment)) low n inside fits
