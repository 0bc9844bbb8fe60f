-- The first fault among the symbols that dynamic entries locate, whatever rows are shown.
use Rattle.std.proofs.Common.{◌≡◌, ℕ, ◌+◌, ◌*◌, ◌%◌, ◌^◌, ◌==◌, ◌/◌, ◌&&◌, not, nat_lt, if◌then◌else◌, Bool, true, false, List, [], ◌∷◌, ◌++◌, Option, None, Some, Result, Ok, Err}
use Rattle.elf_model.specs.Prelude.{DynamicSymbols, EveryRow, Fault, HEADER, HashStyle, HeaderTable, LAST_ADDRESS, LinePrefix, ListingItem, ListingStyle, LocatedSymbols, LocatedTable, NoSuffix, NoteRow, RELOCS, RELR_BITS, RowFilter, SECTIONS, SEGMENTS, SYMBOLS, TableKind, VERSYM_SIZE, VisitedRecord, all_checks, bit_row, bitmap_base, chosen_row, class_choice, counted_rows, d_tag, d_un, dynamic_at, dynamic_count, dynamic_prefix, dynamic_row, dynamic_segment_index, dynamic_tables, e_machine, e_phnum, e_shnum, each, either_kind, entries_rows, entry_at, entry_count, fault_of, first_segment_tables, form_rows, has, has_symbols, has_tables, hash_row, hashed_symbol_row, hashed_symbol_rows, header_checks, header_row, is_bitmap, is_string_tag, kinds_rows, known_parts, linked_at, listing, load_checks, load_items, loaded_items, located_items, located_row, located_rows, located_symbols, located_table, locates_tables, mapped_strings, name_index, named_among, named_at, no_name, note_align, note_row, note_rows, notes_rows, number_in, numbered_row, overlap_checks, p_align, p_filesz, p_offset, padded_size, place_of_dynamic, place_of_header, place_of_record, place_of_relr, place_of_section, place_of_segment, place_of_version, placed_choice, r_sym, refused_row, relative_relocations, relocation_choice, relocation_prefix, relocation_row, relocation_row_with_version, relocation_size, relocation_table_rows, relocations, relocations_with_versions, relr_prefix, relr_row, relr_rows, relr_rows_at, relr_word, rows_by_hash, section_at, section_dynamic, section_name, section_notes, section_prefix, section_row, section_versions, segment_at, segment_checks, segment_dynamic, segment_dynamic_checks, segment_lookup_tables, segment_notes, segment_relocations, segment_row, segment_symbol_rows, segment_tables, sh_addralign, sh_link, sh_offset, sh_size, shown as shown_name, shows_place, slice, st_name, strings_of, suffixed_relocation_rows, suffixed_symbol_rows, suffixed_symbols, suffixes_refusal, symbol_choice, symbol_named, symbol_prefix, symbol_row, symbol_row_with_version, symbol_suffix, symbol_version_prefix, symbol_version_row, symbol_version_rows, symbol_versions, symbols, symbols_hashed, table_headers, table_items, table_rows, value_name, version_definitions, version_named, version_needs, version_prefix, version_row, version_strings, versioned_count, versioned_symbols, versions_rows, versym, view_checks, viewed, walk_rows, walked, word_rows}
use Rattle.elf_model.specs.declared.place_filters.PlaceFilter.{PlaceFilter}
use Rattle.elf_model.specs.declared.symbol_filters.SymbolFilter.{SymbolFilter}
use Rattle.elf_model.proofs.SameFaults.{SameFault, after_fault, alike, appended, chosen_fault, each_fault, guarded_fault, line_fault, suffixed_fault, where_fault}
use Rattle.elf_model.specs.declared.causes.Refusal.{Refusal}

module _ (file : List ℕ) (style : ListingStyle) (rows : RowFilter) (filter : SymbolFilter) (place : PlaceFilter) where
  abbrev selected : ListingStyle
  selected = record (style) { choice = rows; symbols = filter; place = place }

  hashed_row_same : (segment : ℕ) (strings : List ℕ) (table_at index : ℕ)
      → SameFault (hashed_symbol_row file selected segment strings table_at index) (hashed_symbol_row file style segment strings table_at index)
  unfolding hashed_symbol_row
  hashed_row_same segment strings table_at index =
      let symbol_at : ℕ = table_at + 24 * index in
      chosen_fault (class_choice file selected true symbol_at) (class_choice file style true symbol_at) (symbol_prefix style.format style.gnu (e_machine file) file symbol_at segment index) symbol_at
      (shown_name strings (st_name file symbol_at) style.cap)

  counted_same : (symbols : DynamicSymbols) (count : Result ℕ Refusal) → SameFault (counted_rows file selected symbols count) (counted_rows file style symbols count)
  unfolding counted_rows
  counted_same symbols (Err refusal) = alike
  counted_same symbols (Ok count) =
      each_fault (hashed_symbol_row file selected symbols.index symbols.strings symbols.place) (hashed_symbol_row file style symbols.index symbols.strings symbols.place) (hashed_row_same symbols.index symbols.strings symbols.place) 0 count

  pub by_hash_same : (segment at : ℕ) (found : Option (HashStyle × ℕ)) → SameFault (rows_by_hash file selected segment at found) (rows_by_hash file style segment at found)
  unfolding rows_by_hash hashed_symbol_rows
  by_hash_same segment at None = alike
  by_hash_same segment at (Some found) =
      let tables = segment_lookup_tables file found.0 segment at found.1 in
      guarded_fault (segment_checks file found.0 at found.1) (counted_same tables.symbols (symbols_hashed file tables))
