-- The row at an offset is in the first table in the store that has it.
use Rattle.std.proofs.Common.{◌≡◌, ℕ, ◌<◌, Bool, true, false, Option, None, Some, refl, sym, ap, ◌∙◌, arith}
use Rattle.elf_model.specs.Prelude.{entry_number, header_field, is_in_section, is_in_segment, listed_range, p_offset, p_type, range_has, row_in_segments, row_in_tables, section_entry_size, segment_entry_size, sh_offset, sh_type}
use Rattle.elf_model.specs.declared.fault_rows.FaultRow.{FaultRow}
use Rattle.elf_model.specs.declared.fault_rows.FaultRow.TheVariants.{NoRow, Section, Segment}
use Rattle.elf_model.proofs.LookupSteps.{first_that-none, first_that-some}
use Rattle.elf_record.specs.Prelude.{IsPhdr, IsShdr}
use Rattle.elf_record.specs.declared.phdr.Phdr.{Phdr}
use Rattle.elf_record.specs.declared.shdr.Shdr.{Shdr}
use Rattle.elf_table.specs.Prelude.{StoreState, row, segment_bytes}
use Rattle.elf_listing.specs.Prelude.{store_sections, store_segments}

module _ (store : StoreState) (at : ℕ) where
  -- no section before an index has the offset, and no segment
  abbrev pub NoSectionBefore : ℕ → Type 0
  NoSectionBefore i = (j : ℕ) → j < i → is_in_section (store_sections store) at j ≡ false

  abbrev pub NoSegmentBefore : ℕ → Type 0
  NoSegmentBefore i = (j : ℕ) → j < i → is_in_segment (store_segments store) at j ≡ false

  module _ (i : ℕ) (header : Shdr) (size : Option ℕ) (is : IsShdr (row store i) 0 header) (sized : size ≡ section_entry_size header.sh_type) where
    pub section_tested : (listed : Bool) → listed ≡ range_has (listed_range size header.sh_offset header.sh_size) at → is_in_section (store_sections store) at i ≡ listed
    section_tested listed l = rw (l, sized, is.sh_type, is.sh_offset, is.sh_size) refl

    pub section_here : (entry : Option ℕ) → entry ≡ entry_number size header.sh_offset at → i < store.loaded → NoSectionBefore i → is_in_section (store_sections store) at i ≡ true
        → Section i entry ≡ row_in_tables (store_sections store) (store_segments store) at
    unfolding row_in_tables
    section_here entry e below before here =
        let found = first_that-some (is_in_section (store_sections store) at) 0 store.loaded i (omega arith) (omega (arith, below)) (λ j low high. before j high) here in
        let same : entry ≡ entry_number (section_entry_size (header_field (store_sections store) sh_type i)) (header_field (store_sections store) sh_offset i) at = rw (e, sized, is.sh_type, is.sh_offset) refl in
        ap (λ (n : Option ℕ). Section i n) same
        ∙ ap (λ (first : Option ℕ). elim first as (λ _. FaultRow) [
          | None ↦ row_in_segments (store_segments store) at
          | Some i ↦ Section i (entry_number (section_entry_size (header_field (store_sections store) sh_type i)) (header_field (store_sections store) sh_offset i) at)
        ]) (sym found)

  pub section_none : NoSectionBefore store.loaded → row_in_segments (store_segments store) at ≡ row_in_tables (store_sections store) (store_segments store) at
  unfolding row_in_tables
  section_none before =
      let found = first_that-none (is_in_section (store_sections store) at) 0 store.loaded (λ j low high. before j (omega (arith, high))) in
      ap (λ (first : Option ℕ). elim first as (λ _. FaultRow) [
        | None ↦ row_in_segments (store_segments store) at
        | Some i ↦ Section i (entry_number (section_entry_size (header_field (store_sections store) sh_type i)) (header_field (store_sections store) sh_offset i) at)
      ]) (sym found)

  module _ (i : ℕ) (header : Phdr) (size : Option ℕ) (is : IsPhdr (segment_bytes store i) 0 header) (sized : size ≡ segment_entry_size header.p_type) where
    pub segment_tested : (listed : Bool) → listed ≡ range_has (listed_range size header.p_offset header.p_filesz) at → is_in_segment (store_segments store) at i ≡ listed
    segment_tested listed l = rw (l, sized, is.p_type, is.p_offset, is.p_filesz) refl

    pub segment_here : (entry : Option ℕ) → entry ≡ entry_number size header.p_offset at → i < store.segments → NoSegmentBefore i → is_in_segment (store_segments store) at i ≡ true
        → Segment i entry ≡ row_in_segments (store_segments store) at
    unfolding row_in_segments
    segment_here entry e below before here =
        let found = first_that-some (is_in_segment (store_segments store) at) 0 store.segments i (omega arith) (omega (arith, below)) (λ j low high. before j high) here in
        let same : entry ≡ entry_number (segment_entry_size (header_field (store_segments store) p_type i)) (header_field (store_segments store) p_offset i) at = rw (e, sized, is.p_type, is.p_offset) refl in
        ap (λ (n : Option ℕ). Segment i n) same
        ∙ ap (λ (first : Option ℕ). elim first as (λ _. FaultRow) [
          | None ↦ NoRow
          | Some i ↦ Segment i (entry_number (segment_entry_size (header_field (store_segments store) p_type i)) (header_field (store_segments store) p_offset i) at)
        ]) (sym found)

  pub segment_none : NoSegmentBefore store.segments → NoRow ≡ row_in_segments (store_segments store) at
  unfolding row_in_segments
  segment_none before =
      let found = first_that-none (is_in_segment (store_segments store) at) 0 store.segments (λ j low high. before j (omega (arith, high))) in
      ap (λ (first : Option ℕ). elim first as (λ _. FaultRow) [
        | None ↦ NoRow
        | Some i ↦ Segment i (entry_number (segment_entry_size (header_field (store_segments store) p_type i)) (header_field (store_segments store) p_offset i) at)
      ]) (sym found)
