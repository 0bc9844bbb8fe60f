-- What relocations store lies in the segment that it is stored in, and has no more bytes than they
-- may change.
use Rattle.std.proofs.Common.{◌≡◌, ℕ, ◌+◌, ◌-◌, ◌%◌, ◌^◌, ◌≤◌, ◌==◌, ◌&&◌, ◌||◌, not, nat_lt, inl, inr, Bool, true, false, List, [], ◌∷◌, ◌++◌, length, map, filter, flat_map, All, Option, None, Some, Result, Ok, Err, refl, subst, arith}
use Rattle.std.specs.Prelude.{option_to_list}
use Rattle.std.proofs.lemmas.Bool.{cases_Bool, and_parts, eqb-true, ltb-false, not-true}
use Rattle.std.proofs.lemmas.List.Elements.{All-nil, All-cons, All-append, All-head, All-tail}
use Rattle.elf_model.specs.ApplyLaws.{AllInside, IsInside}
use Rattle.elf_model.specs.Bytes.{little}
use Rattle.elf_model.specs.Checks.{first_refusal, refuse}
use Rattle.elf_model.specs.Image.{ImageChange, ImageSource, Keeps, Lacks, Refuses, RelativeAddress, SegmentWrite, Stores, and_writes, change_by, change_of_type, direct_change, direct_changes, entry_change, entry_ranges, holder_of, holds_in_memory, is_lack, is_resolved, place_checks, range_changes, relative_changes, relocation_changes, resolved_changes, stored_at, stored_in, table_addresses, word_before, writes_of}
use Rattle.elf_model.specs.ImageChecks.{linkage_table, rela_table, relative_table, row_value}
use Rattle.elf_model.specs.ImageValues.{changed_size, dynamic_symbol_checks, dynamic_type, entry_symbol, stored_bytes}
use Rattle.elf_model.specs.Numbers.{DT_RELACOUNT, PT_LOAD, R_X86_64_NONE, R_X86_64_RELATIVE}
use Rattle.elf_model.specs.Records.{e_phnum, p_memsz, p_type, p_vaddr, r_offset, r_type, segment_at}
use Rattle.elf_model.specs.RelativeRelocations.{LAST_ADDRESS}
use Rattle.elf_model.specs.declared.causes.Cause.TheVariants.{Relr}
use Rattle.elf_model.specs.declared.causes.Cause.{Cause}
use Rattle.elf_model.specs.declared.causes.Refusal.{Refusal}
use Rattle.elf_model.specs.declared.dynamic_types.DynamicType.{DynamicType}
use Rattle.elf_model.proofs.ChangeLaws.{length-little}
use Rattle.elf_model.proofs.CheckSteps.{first_refusal-back}
use Rattle.elf_model.proofs.ImageLaws.{passes_first}
use Rattle.elf_model.proofs.ImageValues.{stored_fits}
use Rattle.elf_model.proofs.LookupSteps.{first_that-holds}
use Rattle.elf_image.proofs.WindowSteps.{IsShortWrite}

-- a write fits: into the bytes of its segment in memory, and into those that it may change
pub record IsFitting (file : List ℕ) (write : SegmentWrite) : Type 0 where
  pub within : write.stored.at + length write.stored.bytes ≤ p_memsz file (segment_at file write.segment)
  pub few : length write.stored.bytes ≤ write.size

abbrev pub IsFittingChange : List ℕ → ImageChange → Type 0
IsFittingChange file (Stores write) = IsFitting file write
IsFittingChange file Keeps = Unit {0}
IsFittingChange file (Lacks refusal) = Unit {0}
IsFittingChange file (Refuses refusal) = Unit {0}

module _ (file : List ℕ) (at refused address size : ℕ) where
  place_fits : (bytes : List ℕ) (found : Option ℕ) → holder_of file address size ≡ found → first_refusal (place_checks file at refused address size) ≡ None
      → length bytes ≤ size → IsFittingChange file (stored_at file address size bytes)
  unfolding place_checks stored_at holder_of
  place_fits bytes None e passes fits = let f = rw (e, place_checks) at passes in absurd (cc)
  place_fits bytes (Some i) e passes fits =
      let held = first_that-holds (λ i. holds_in_memory file (segment_at file i) address size) 0 (e_phnum file) i e in
      let vaddr = p_vaddr file (segment_at file i) in
      let last = p_vaddr file (segment_at file i) + p_memsz file (segment_at file i) in
      let parts = and_parts ((p_type file (segment_at file i) == PT_LOAD) && not (nat_lt address vaddr)) (not (nat_lt last (address + size))) held.0 in
      let low = ltb-false address vaddr (not-true _ (and_parts (p_type file (segment_at file i) == PT_LOAD) (not (nat_lt address vaddr)) parts.0).1) in
      let high = ltb-false last (address + size) (not-true _ parts.1) in
      rw (e, stored_at) (record { within = omega (arith, fits, low, high); few = fits })

module _ (source : ImageSource) where
  abbrev Fits : ImageChange → Type 0
  Fits = IsFittingChange source.file

  -- relative relocations
  relative_at : (row : RelativeAddress) (rows : List RelativeAddress) (low address : ℕ) (refusal : Option Refusal)
      → first_refusal (refuse (nat_lt LAST_ADDRESS address || nat_lt address low) row.word_at Relr ∷ place_checks source.file source.at row.word_at address 8) ≡ refusal
      → row.address ≡ Some address → All Fits (relative_changes source (address + 8) rows) → All Fits (relative_changes source low (row ∷ rows))
  unfolding relative_changes
  relative_at row rows low address (Some refusal) e has others =
      rw (has, relative_changes) (rw (e, relative_changes) (All-cons Fits (Refuses refusal) [] tt (All-nil Fits)))
  relative_at row rows low address None e has others =
      let passes = (passes_first (refuse (nat_lt LAST_ADDRESS address || nat_lt address low) row.word_at Relr) (place_checks source.file source.at row.word_at address 8) e).1 in
      let bytes = little 8 ((word_before source.whole source.file address + source.items.base) % 2 ^ 64) in
      let long = length-little 8 ((word_before source.whole source.file address + source.items.base) % 2 ^ 64) in
      rw (has, relative_changes) (rw (e, relative_changes) (All-cons Fits (stored_at source.file address 8 bytes) (relative_changes source (address + 8) rows)
      (place_fits source.file source.at row.word_at address 8 bytes (holder_of source.file address 8) refl passes (omega (arith, long))) others))

  relative_row : (row : RelativeAddress) (rows : List RelativeAddress) (low : ℕ) (address : Option ℕ) → row.address ≡ address
      → ((next : ℕ) → All Fits (relative_changes source next rows)) → All Fits (relative_changes source low (row ∷ rows))
  unfolding relative_changes
  relative_row row rows low None has others = rw (has, relative_changes) (All-cons Fits (Refuses (record { at = row.word_at; cause = Relr })) [] tt (All-nil Fits))
  relative_row row rows low (Some address) has others = relative_at row rows low address _ refl has (others (address + 8))

  relative_fits : (low : ℕ) (rows : List RelativeAddress) → All Fits (relative_changes source low rows)
  unfolding relative_changes
  relative_fits low [] = All-nil Fits
  relative_fits low (row ∷ rows) = relative_row row rows low row.address refl (λ next. relative_fits next rows)

  -- an entry
  lack_fits : (rela : ℕ) (cause : Cause) (lacks : Bool)
      → Fits (elim lacks [ true ↦ Lacks (record { at = rela; cause = cause }) | false ↦ Refuses (record { at = rela; cause = cause }) ])
  lack_fits rela cause true = tt
  lack_fits rela cause false = tt

  by_fits : (rela size : ℕ) (found : Result (List ℕ) Cause) → first_refusal (place_checks source.file source.at rela (r_offset source.file rela) size) ≡ None
      → ((bytes : List ℕ) → found ≡ Ok bytes → length bytes ≤ size) → Fits (change_by source rela size found)
  unfolding change_by
  by_fits rela size (Ok bytes) passes fits =
      place_fits source.file source.at rela (r_offset source.file rela) size bytes (holder_of source.file (r_offset source.file rela) size) refl passes (fits bytes refl)
  by_fits rela size (Err cause) passes fits = lack_fits rela cause (is_lack cause)

  typed_fits : (rela : ℕ) (type : DynamicType) (refusal : Option Refusal)
      → first_refusal (dynamic_symbol_checks type source.file source.at rela
      ++ place_checks source.file source.at rela (r_offset source.file rela) (changed_size type source.file (entry_symbol source.file source.at rela))) ≡ refusal
      → Fits (change_of_type source rela (Some type))
  unfolding change_of_type
  typed_fits rela type (Some refusal) e = rw (e, change_of_type) tt
  typed_fits rela type None e =
      let symbol = entry_symbol source.file source.at rela in
      let size = changed_size type source.file symbol in
      let passes = first_refusal-back (dynamic_symbol_checks type source.file source.at rela) (place_checks source.file source.at rela (r_offset source.file rela) size) e in
      rw (e, change_of_type) (by_fits rela size (stored_bytes type source.file source.items rela symbol) passes
      (λ bytes is. stored_fits type source.file source.items rela symbol bytes is))

  type_fits : (rela : ℕ) (type : Option DynamicType) → Fits (change_of_type source rela type)
  unfolding change_of_type
  type_fits rela None = tt
  type_fits rela (Some type) = typed_fits rela type _ refl

  entry_fits : (rela : ℕ) → Fits (entry_change source rela)
  unfolding entry_change
  entry_fits rela = elim (cases_Bool (r_type source.file rela == R_X86_64_NONE)) [
    | inl none ↦ rw (none, entry_change) tt
    | inr some ↦ rw (some, entry_change) (type_fits rela (dynamic_type (r_type source.file rela)))
  ]

  direct_fits : (relative : Bool) (rela : ℕ) → Fits (direct_change source relative rela)
  unfolding direct_change
  direct_fits relative rela = elim (cases_Bool (relative && not (r_type source.file rela == R_X86_64_RELATIVE))) [
    | inl other ↦ rw (other, direct_change) tt
    | inr fine ↦ elim (cases_Bool (is_resolved source.file rela)) [
      | inl later ↦ rw (fine, direct_change) (rw (later, direct_change) tt)
      | inr now ↦ rw (fine, direct_change) (rw (now, direct_change) (entry_fits rela))
    ]
  ]

  directs_fit : (count : ℕ) (relas : List ℕ) → All Fits (direct_changes source count relas)
  unfolding direct_changes
  directs_fit count [] = All-nil Fits
  directs_fit count (rela ∷ relas) = All-cons Fits (direct_change source (nat_lt 0 count) rela) (direct_changes source (count - 1) relas) (direct_fits (nat_lt 0 count) rela) (directs_fit (count - 1) relas)

  each_fits : (relas : List ℕ) → All Fits (map (entry_change source) relas)
  each_fits [] = All-nil Fits
  each_fits (rela ∷ relas) = All-cons Fits (entry_change source rela) (map (entry_change source) relas) (entry_fits rela) (each_fits relas)

  range_fits : (count : ℕ) (relas : List ℕ) → All Fits (range_changes source count relas)
  unfolding resolved_changes
  range_fits count relas =
      All-append Fits (direct_changes source count relas) (resolved_changes source relas) (directs_fit count relas) (each_fits (filter (is_resolved source.file) relas))

  changes_fit : All Fits (relocation_changes source)
  unfolding relocation_changes
  changes_fit =
      let ranges = entry_ranges (rela_table source.file source.at) (linkage_table source.file source.at) in
      let count = row_value source.file source.at DT_RELACOUNT in
      let rows = flat_map (table_addresses source.file) (option_to_list (relative_table source.file source.at)) in
      let first = range_changes source count ranges.0 in
      All-append Fits (relative_changes source 0 rows ++ first) (range_changes source 0 ranges.1)
      (All-append Fits (relative_changes source 0 rows) first (relative_fits 0 rows) (range_fits count ranges.0)) (range_fits 0 ranges.1)

-- the writes of changes that fit
of_changes : (file : List ℕ) (partial : Bool) (changes : List ImageChange) (writes : List SegmentWrite)
    → All (IsFittingChange file) changes → writes_of partial changes ≡ Ok writes → All (IsFitting file) writes
unfolding writes_of and_writes
of_changes file partial [] writes all e = let same : [] ≡ writes = cc in rw (← same) (All-nil (IsFitting file))
of_changes file partial (Keeps ∷ changes) writes all e =
    of_changes file partial changes writes (All-tail (IsFittingChange file) Keeps changes all) e
of_changes file partial (Refuses refusal ∷ changes) writes all e = absurd (cc)
of_changes file true (Lacks refusal ∷ changes) writes all e =
    of_changes file true changes writes (All-tail (IsFittingChange file) (Lacks refusal) changes all) e
of_changes file false (Lacks refusal ∷ changes) writes all e = absurd (cc)
of_changes file partial (Stores write ∷ changes) writes all e =
    more (writes_of partial changes) (λ others is. of_changes file partial changes others (All-tail (IsFittingChange file) (Stores write) changes all) is) e
  where
    more : (rest : Result (List SegmentWrite) Refusal) → ((others : List SegmentWrite) → rest ≡ Ok others → All (IsFitting file) others)
        → and_writes write rest ≡ Ok writes → All (IsFitting file) writes
    more (Err refusal) others f = absurd (cc)
    more (Ok rest) others f =
        let same : write ∷ rest ≡ writes = cc in
        rw (← same) (All-cons (IsFitting file) write rest (All-head (IsFittingChange file) (Stores write) changes all) (others rest refl))

-- THE LAW: all writes fit
pub writes_fit : (source : ImageSource) (partial : Bool) (writes : List SegmentWrite) → writes_of partial (relocation_changes source) ≡ Ok writes → All (IsFitting source.file) writes
writes_fit source partial writes is = of_changes source.file partial (relocation_changes source) writes (changes_fit source) is

-- so those to one segment lie in its bytes, and none has more bytes than it says
pub fitting-few : (file : List ℕ) (writes : List SegmentWrite) → All (IsFitting file) writes → All IsShortWrite writes
fitting-few file [] all = All-nil IsShortWrite
fitting-few file (write ∷ writes) all =
    All-cons IsShortWrite write writes (All-head (IsFitting file) write writes all).few (fitting-few file writes (All-tail (IsFitting file) write writes all))

pub fitting-inside : (file : List ℕ) (segment : ℕ) (writes : List SegmentWrite) → All (IsFitting file) writes
    → AllInside (p_memsz file (segment_at file segment)) (stored_in segment writes)
unfolding stored_in
fitting-inside file segment [] all = All-nil _
fitting-inside file segment (write ∷ writes) all =
    let size = p_memsz file (segment_at file segment) in
    let others = fitting-inside file segment writes (All-tail (IsFitting file) write writes all) in
    elim (cases_Bool (write.segment == segment)) [
      | inl same ↦
          let equal : write.segment ≡ segment = eqb-true write.segment segment same in
          let inside : IsInside size write.stored = subst (λ i. write.stored.at + length write.stored.bytes ≤ p_memsz file (segment_at file i)) equal (All-head (IsFitting file) write writes all).within in
          rw same (All-cons (IsInside size) write.stored (stored_in segment writes) inside others)
      | inr other ↦ rw other others
    ]
