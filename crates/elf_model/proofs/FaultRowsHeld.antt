-- The row at an offset by headers that were copied from a file is that by the file's.
use Rattle.std.proofs.Common.{◌≡◌, ℕ, ◌<◌, List, Option, None, Some, refl, ap, sym, ◌∙◌, arith}
use Rattle.elf_model.specs.Prelude.{HeaderTable, ListingStyle, PROGRAM_HEADER_SIZE, SECTION_HEADER_SIZE, e_shnum, entry_number, field, file_sections, first_that, header_field, held_headers, is_in_section, is_in_segment, p_offset, p_type, row_in_segments, row_in_tables, section_at, section_entry_size, segment_at, segment_entry_size, sh_offset, sh_type, slice, table_segments}
use Rattle.elf_model.specs.declared.fault_rows.FaultRow.{FaultRow}
use Rattle.elf_model.specs.declared.fault_rows.FaultRow.TheVariants.{NoRow, Section, Segment}
use Rattle.elf_model.proofs.HeldHeaders.{AreHeld, first_that-equal, offset_held, p_filesz_held, p_offset_held, p_type_held, size_held, type_held}
use Rattle.elf_model.proofs.LookupSteps.{first_that-holds}
use Rattle.elf_model.proofs.Slices.{field-slice}

-- the entry at an offset, of a section or a segment that was found
abbrev section_found : (headers segments : HeaderTable) → ℕ → Option ℕ → FaultRow
section_found headers segments at None = row_in_segments segments at
section_found headers segments at (Some i) =
    Section i (entry_number (section_entry_size (header_field headers sh_type i)) (header_field headers sh_offset i) at)

abbrev segment_found : HeaderTable → ℕ → Option ℕ → FaultRow
segment_found headers at None = NoRow
segment_found headers at (Some i) =
    Segment i (entry_number (segment_entry_size (header_field headers p_type i)) (header_field headers p_offset i) at)

section_is : (headers segments : HeaderTable) (at : ℕ) → row_in_tables headers segments at ≡ section_found headers segments at (first_that (is_in_section headers at) 0 headers.count)
unfolding row_in_tables
section_is headers segments at = refl

segment_is : (headers : HeaderTable) (at : ℕ) → row_in_segments headers at ≡ segment_found headers at (first_that (is_in_segment headers at) 0 headers.count)
unfolding row_in_segments
segment_is headers at = refl

module _ (all : HeaderTable) (bytes : ℕ → List ℕ) (at : ℕ) where
  abbrev held : HeaderTable
  held = held_headers all.count bytes

  sections_row : AreHeld 64 bytes all → (segments : HeaderTable) → row_in_tables held segments at ≡ row_in_tables all segments at
  sections_row fields segments =
      let same = first_that-equal (is_in_section held at) (is_in_section all at) 0 all.count (λ i _ below.
      let few : i < all.count = omega arith in rw (type_held all bytes fields i few, offset_held all bytes fields i few, size_held all bytes fields i few) refl) in
      section_is held segments at ∙ ap (section_found held segments at) same ∙ by_found (first_that (is_in_section all at) 0 all.count) refl ∙ sym (section_is all segments at)
    where
      by_found : (found : Option ℕ) → first_that (is_in_section all at) 0 all.count ≡ found → section_found held segments at found ≡ section_found all segments at found
      by_found None f = refl
      by_found (Some i) f =
          let found = first_that-holds (is_in_section all at) 0 all.count i f in
          let few : i < all.count = omega (arith, found.2) in
          rw (type_held all bytes fields i few, offset_held all bytes fields i few) refl

  segments_row : AreHeld 56 bytes all → row_in_segments held at ≡ row_in_segments all at
  segments_row fields =
      let same = first_that-equal (is_in_segment held at) (is_in_segment all at) 0 all.count (λ i _ below.
      let few : i < all.count = omega arith in rw (p_type_held all bytes fields i few, p_offset_held all bytes fields i few, p_filesz_held all bytes fields i few) refl) in
      segment_is held at ∙ ap (segment_found held at) same ∙ by_found (first_that (is_in_segment all at) 0 all.count) refl ∙ sym (segment_is all at)
    where
      by_found : (found : Option ℕ) → first_that (is_in_segment all at) 0 all.count ≡ found → segment_found held at found ≡ segment_found all at found
      by_found None f = refl
      by_found (Some i) f =
          let found = first_that-holds (is_in_segment all at) 0 all.count i f in
          let few : i < all.count = omega (arith, found.2) in
          rw (p_type_held all bytes fields i few, p_offset_held all bytes fields i few) refl

-- the rows of the same segments
tables_row : (sections some all : HeaderTable) (at : ℕ) → row_in_segments some at ≡ row_in_segments all at → row_in_tables sections some at ≡ row_in_tables sections all at
tables_row sections some all at same =
    section_is sections some at ∙ by_found (first_that (is_in_section sections at) 0 sections.count) ∙ sym (section_is sections all at)
  where
    by_found : (found : Option ℕ) → section_found sections some at found ≡ section_found sections all at found
    by_found None = same
    by_found (Some i) = refl

-- THE ROW by headers in bytes of their own
pub row_held : (file : List ℕ) (style : ListingStyle) (parts : ℕ) (section segment : ℕ → List ℕ) (at : ℕ)
    → ((i : ℕ) → i < e_shnum file → section i ≡ slice file (section_at file i) SECTION_HEADER_SIZE)
    → ((i : ℕ) → i < (table_segments file style parts).count → segment i ≡ slice file (segment_at file i) PROGRAM_HEADER_SIZE)
    → row_in_tables (held_headers (e_shnum file) section) (held_headers (table_segments file style parts).count segment) at
    ≡ row_in_tables (file_sections file) (table_segments file style parts) at
row_held file style parts section segment at sections segments =
    sections_row (file_sections file) section at
    (λ i place size below within. ap (λ bytes. field bytes place size) (sections i below) ∙ field-slice file (section_at file i) 64 place size within)
    (held_headers (table_segments file style parts).count segment)
    ∙ tables_row (file_sections file) (held_headers (table_segments file style parts).count segment) (table_segments file style parts) at
    (segments_row (table_segments file style parts) segment at
    (λ i place size below within. ap (λ bytes. field bytes place size) (segments i below) ∙ field-slice file (segment_at file i) 56 place size within))
