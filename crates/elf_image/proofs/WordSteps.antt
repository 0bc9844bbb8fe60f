-- What a relative relocation changes: its address, its place, and the word there.
use Rattle.std.proofs.Common.{◌≡◌, ◌∙◌, ℕ, zero, suc, ◌+◌, ◌-◌, ◌*◌, ◌%◌, ◌^◌, ◌≤◌, ◌==◌, ◌&&◌, ◌||◌, not, nat_lt, false, List, [], ◌∷◌, ◌++◌, Option, None, Some, flat_map, ap, sym, refl, arith, append-nil}
use Rattle.std.specs.Prelude.{option_to_list}
use Rattle.std.proofs.lemmas.Bool.{and_parts, ltb-false, not-true, or_parts}
use Rattle.elf_model.specs.Apply.{places_from}
use Rattle.elf_model.specs.Bytes.{little}
use Rattle.elf_model.specs.Checks.{Check, first_refusal, refuse}
use Rattle.elf_model.specs.Image.{ImageChange, ImageSource, Refuses, RelativeAddress, Stores, holder_of, holds_in_memory, place_checks, relative_changes, stored_at, table_addresses, word_addresses, word_before}
use Rattle.elf_model.specs.ImageChecks.{LoadedTable}
use Rattle.elf_model.specs.Numbers.{PT_LOAD}
use Rattle.elf_model.specs.Prelude.{e_phnum, p_memsz, p_type, p_vaddr, segment_at}
use Rattle.elf_model.specs.Records.{relr_word}
use Rattle.elf_model.specs.RelativeRelocations.{LAST_ADDRESS, bitmap_base}
use Rattle.elf_model.specs.declared.causes.Cause.{Cause}
use Rattle.elf_model.specs.declared.causes.Cause.TheVariants.{Relr}
use Rattle.elf_model.specs.declared.causes.Refusal.{Refusal}
use Rattle.elf_model.proofs.ChangeLaws.{length-little}
use Rattle.elf_model.proofs.LookupSteps.{first_that-holds}
use Rattle.elf_table.specs.Tables.{TableRange}
use Rattle.elf_image.specs.Changes.{based_write, segment_word}
use Rattle.elf_image.specs.EntryOrder.{IsFarWrite}
use Rattle.elf_image.specs.RelaRows.{is_in_reach}
use Rattle.elf_image.specs.RelativeRows.{IsRefusedAddress, words_left}
use Rattle.elf_image.specs.Relocated.{AreRelrWords, IsHeldPlace, write_at}
use Rattle.elf_image.specs.declared.place.Place.{Place}
use Rattle.elf_image.specs.declared.rela_rows.WindowReach.{WindowReach}
use Rattle.elf_image.proofs.EntrySteps.{stored_here}
use Rattle.elf_image.proofs.PlaceSteps.{none_holds}
use Rattle.elf_image.proofs.RelativeSteps.{words-none}

-- the words of a table
words_from : (file : List ℕ) (at index count : ℕ)
    → flat_map (λ i. word_addresses (at + 8 * i) (bitmap_base file at i) (relr_word file (at + 8 * i))) (places_from (λ i. i) index count) ≡ words_left file at index count
unfolding words_left places_from
words_from file at index zero = refl
words_from file at index (suc count) =
    ap (λ xs. word_addresses (at + 8 * index) (bitmap_base file at index) (relr_word file (at + 8 * index)) ++ xs) (words_from file at (suc index) count)

table_words : (file : List ℕ) (table : LoadedTable) → table_addresses file table ≡ words_left file table.place 0 table.count
unfolding table_addresses
table_words file table = words_from file table.place 0 table.count

pub words_begin : (file : List ℕ) (table : Option LoadedTable) (words : TableRange) → AreRelrWords table words
    → flat_map (table_addresses file) (option_to_list table) ≡ words_left file words.at 0 words.count
words_begin file None words none = sym (words-none file words.at 0 words.count none)
words_begin file (Some table) words is =
    append-nil (table_addresses file table) ∙ (table_words file table ∙ ap (λ (t : TableRange). words_left file t.at 0 t.count) (sym is))

-- a segment that holds bytes begins at their address or before it
pub held_above : (file : List ℕ) (address size i : ℕ) → holder_of file address size ≡ Some i → p_vaddr file (segment_at file i) ≤ address
unfolding holder_of
held_above file address size i h =
    let at = segment_at file i in
    let found = first_that-holds (λ k. holds_in_memory file (segment_at file k) address size) 0 (e_phnum file) i h in
    let last = p_vaddr file at + p_memsz file at in
    let parts = and_parts ((p_type file at == PT_LOAD) && not (nat_lt address (p_vaddr file at))) (not (nat_lt last (address + size))) found.0 in
    ltb-false address (p_vaddr file at) (not-true _ (and_parts (p_type file at == PT_LOAD) (not (nat_lt address (p_vaddr file at))) parts.0).1)

-- an address whose place passes its checks has one
pub place_found : (source : ImageSource) (refused_at address width : ℕ) → first_refusal (place_checks source.file source.at refused_at address width) ≡ None
    → (place : Place) × IsHeldPlace source.file address width place
place_found source refused_at address width passes = by_holder (holder_of source.file address width) refl
  where
    by_holder : (found : Option ℕ) → holder_of source.file address width ≡ found → (place : Place) × IsHeldPlace source.file address width place
    by_holder None e = let refused = none_holds source refused_at address width e in absurd (cc)
    by_holder (Some i) e = (record { segment = i; offset = address - p_vaddr source.file (segment_at source.file i) }, record { holder = e; offset = refl })

-- a place is where its address is
pub placed_at : (file : List ℕ) (address width : ℕ) (place : Place) → IsHeldPlace file address width place
    → p_vaddr file (segment_at file place.segment) + place.offset ≡ address
placed_at file address width place is =
    let above = held_above file address width place.segment is.holder in
    omega (arith, is.offset)

-- the word at an address before relocations is the one at its place
word_here : (source : ImageSource) (address : ℕ) (place : Place) → IsHeldPlace source.file address 8 place
    → word_before source.whole source.file address ≡ segment_word source place.segment place.offset
unfolding word_before
word_here source address place is = rw (is.holder, word_before, is.offset) refl

pub far_word : (source : ImageSource) (reach : WindowReach) (address : ℕ) (place : Place) → IsHeldPlace source.file address 8 place
    → is_in_reach reach address ≡ false → IsFarWrite source.file reach (based_write source place)
far_word source reach address place is far =
    let long = length-little 8 ((segment_word source place.segment place.offset + source.items.base) % 2 ^ 64) in
    record { few = omega (arith, long); small = omega arith; far = ap (is_in_reach reach) (placed_at source.file address 8 place is) ∙ far }

-- an address that is in range is not below the lowest that may be
pub not_below : (address low : ℕ) → (nat_lt LAST_ADDRESS address || nat_lt address low) ≡ false → low ≤ address
not_below address low fits = ltb-false address low (or_parts (nat_lt LAST_ADDRESS address) (nat_lt address low) fits).1

-- WHAT RELATIVE RELOCATIONS DO
pub relative_none : (source : ImageSource) (low : ℕ) → relative_changes source low [] ≡ []
unfolding relative_changes
relative_none source low = refl

pub refusal_as : (refusal : Refusal) (cause : Cause) → refusal.cause ≡ cause → (let whole : Refusal = record { at = refusal.at; cause = cause } in whole) ≡ refusal
refusal_as refusal cause is = rw (← is) refl

module _ (source : ImageSource) (low at : ℕ) (rest : List RelativeAddress) where
  pub relative_refused : (address : Option ℕ) → IsRefusedAddress low address
      → relative_changes source low (record { word_at = at; address = address } ∷ rest) ≡ Refuses (record { at = at; cause = Relr }) ∷ []
  unfolding relative_changes
  relative_refused None refused = refl
  relative_refused (Some address) refused = rw (refused, relative_changes) refl

  module _ (address : ℕ) (fits : (nat_lt LAST_ADDRESS address || nat_lt address low) ≡ false) where
    abbrev checks_here : List Check
    checks_here = refuse (nat_lt LAST_ADDRESS address || nat_lt address low) at Relr ∷ place_checks source.file source.at at address 8

    first_here : first_refusal checks_here ≡ first_refusal (place_checks source.file source.at at address 8)
    first_here = rw fits refl

    pub relative_outside : (refusal : Refusal) → first_refusal (place_checks source.file source.at at address 8) ≡ Some refusal
        → relative_changes source low (record { word_at = at; address = Some address } ∷ rest) ≡ Refuses refusal ∷ []
    unfolding relative_changes
    relative_outside refusal e =
        let first : first_refusal checks_here ≡ Some refusal = first_here ∙ e in rw (first, relative_changes) refl

    module _ (passes : first_refusal (place_checks source.file source.at at address 8) ≡ None) where
      relative_stored : relative_changes source low (record { word_at = at; address = Some address } ∷ rest) ≡ stored_at source.file address 8 (little 8 ((word_before source.whole source.file address + source.items.base) % 2 ^ 64)) ∷ relative_changes source (address + 8) rest
      unfolding relative_changes
      relative_stored = let first : first_refusal checks_here ≡ None = first_here ∙ passes in rw (first, relative_changes) refl

      pub relative_based : (place : Place) → IsHeldPlace source.file address 8 place
          → relative_changes source low (record { word_at = at; address = Some address } ∷ rest) ≡ Stores (based_write source place) ∷ relative_changes source (address + 8) rest
      relative_based place is =
          let here = stored_here source.file address 8 place (little 8 ((word_before source.whole source.file address + source.items.base) % 2 ^ 64)) is in
          let word = ap (λ w. Stores (write_at place 8 (little 8 ((w + source.items.base) % 2 ^ 64)))) (word_here source address place is) in
          relative_stored ∙ ap (λ (change : ImageChange). change ∷ relative_changes source (address + 8) rest) (here ∙ word)
