-- The first fault of a listing, whatever rows are shown.
use Rattle.std.proofs.Common.{◌≡◌, ℕ, ◌+◌, ◌*◌, ◌%◌, ◌^◌, ◌==◌, ◌/◌, ◌&&◌, not, nat_lt, if◌then◌else◌, Bool, true, false, List, [], ◌∷◌, ◌++◌, Option, None, Some, Result, Ok, Err}
use Rattle.elf_model.specs.Prelude.{DynamicSymbols, EveryRow, Fault, HEADER, HashStyle, HeaderTable, LAST_ADDRESS, LinePrefix, ListingItem, ListingStyle, LocatedSymbols, LocatedTable, NoSuffix, NoteRow, RELOCS, RELR_BITS, RowFilter, SECTIONS, SEGMENTS, SYMBOLS, TableKind, VERSYM_SIZE, VisitedRecord, all_checks, bit_row, bitmap_base, chosen_row, class_choice, counted_rows, d_tag, d_un, dynamic_at, dynamic_count, dynamic_prefix, dynamic_row, dynamic_segment_index, dynamic_tables, e_machine, e_phnum, e_shnum, each, either_kind, entries_rows, entry_at, entry_count, fault_of, first_segment_tables, form_rows, has, has_symbols, has_tables, hash_row, hashed_symbol_row, hashed_symbol_rows, header_checks, header_row, is_bitmap, is_string_tag, kinds_rows, known_parts, linked_at, listing, load_checks, load_items, loaded_items, located_items, located_row, located_rows, located_symbols, located_table, locates_tables, mapped_strings, name_index, named_among, named_at, no_name, note_align, note_row, note_rows, notes_rows, number_in, numbered_row, overlap_checks, p_align, p_filesz, p_offset, padded_size, place_of_dynamic, place_of_header, place_of_record, place_of_relr, place_of_section, place_of_segment, place_of_version, placed_choice, r_sym, refused_row, relative_relocations, relocation_choice, relocation_prefix, relocation_row, relocation_row_with_version, relocation_size, relocation_table_rows, relocations, relocations_with_versions, relr_prefix, relr_row, relr_rows, relr_rows_at, relr_word, rows_by_hash, section_at, section_dynamic, section_name, section_notes, section_prefix, section_row, section_versions, segment_at, segment_checks, segment_dynamic, segment_dynamic_checks, segment_lookup_tables, segment_notes, segment_relocations, segment_row, segment_symbol_rows, segment_tables, sh_addralign, sh_link, sh_offset, sh_size, shown as shown_name, shows_place, slice, st_name, strings_of, suffixed_relocation_rows, suffixed_symbol_rows, suffixed_symbols, suffixes_refusal, symbol_choice, symbol_named, symbol_prefix, symbol_row, symbol_row_with_version, symbol_suffix, symbol_version_prefix, symbol_version_row, symbol_version_rows, symbol_versions, symbols, symbols_hashed, table_headers, table_items, table_rows, value_name, version_definitions, version_named, version_needs, version_prefix, version_row, version_strings, versioned_count, versioned_symbols, versions_rows, versym, view_checks, viewed, walk_rows, walked, word_rows}
use Rattle.elf_model.specs.TableKinds.{dynamic_rows}
use Rattle.elf_model.specs.VersionRows.{visited_rows}
use Rattle.elf_model.specs.Versions.{flags_word, hash_word, number_word}
use Rattle.elf_model.specs.declared.versions.VersionKind.TheVariants.{Definition, File}
use Rattle.elf_model.specs.declared.causes.Cause.TheVariants.{Relr, VersionCut, VersionIndex}
use Rattle.elf_model.specs.declared.causes.Refusal.{Refusal}
use Rattle.elf_model.specs.declared.relocation_tables.RelocationForm.{RelocationForm}
use Rattle.elf_model.specs.declared.relocation_tables.RelocationForm.TheVariants.{Relative, WithAddends, WithoutAddends}
use Rattle.elf_model.specs.declared.relocation_tables.RelocationTable.{RelocationTable}
use Rattle.elf_model.specs.declared.relocation_tables.RelocationTable.TheVariants.{Jmprel, Rel, Rela, Relr as RelrTable}
use Rattle.elf_model.specs.declared.place_filters.PlaceFilter.{PlaceFilter}
use Rattle.elf_model.specs.declared.symbol_filters.SymbolFilter.{SymbolFilter}
use Rattle.elf_model.proofs.HashedSelection.{by_hash_same}
use Rattle.elf_model.proofs.SameFaults.{SameFault, after_fault, alike, appended, chosen_fault, each_fault, guarded_fault, line_fault, suffixed_fault, where_fault}

-- THE ROWS OF TABLES in two styles that differ in what is shown alone
module _ (file : List ℕ) (style : ListingStyle) (rows : RowFilter) (filter : SymbolFilter) (place : PlaceFilter) where
  abbrev pub selected : ListingStyle
  selected = record (style) { choice = rows; symbols = filter; place = place }

  -- the rows of a kind have the same first fault
  abbrev pub IsSame : TableKind → Type 0
  IsSame kind = (section at : ℕ) → SameFault (kind.rows file selected section at) (kind.rows file style section at)

  symbol_same : (section at index : ℕ) → SameFault (symbol_row file selected section at index) (symbol_row file style section at index)
  unfolding symbol_row
  symbol_same section at index =
      let symbol_at : ℕ = entry_at file at 24 index in
      chosen_fault (symbol_choice file selected at symbol_at) (symbol_choice file style at symbol_at) (symbol_prefix style.format style.gnu (e_machine file) file symbol_at section index) symbol_at
      (shown_name (strings_of file at) (st_name file symbol_at) style.cap)

  pub symbols_same : IsSame symbols
  unfolding symbols
  symbols_same section at = each_fault (symbol_row file selected section at) (symbol_row file style section at) (symbol_same section at) 0 (entry_count file at 24)

  relocation_same : (addends : Bool) (section at index : ℕ) → SameFault (relocation_row addends file selected section at index) (relocation_row addends file style section at index)
  unfolding relocation_row
  relocation_same addends section at index =
      let rela_at : ℕ = entry_at file at (relocation_size addends) index in
      let named = symbol_named file style.cap at rela_at (r_sym file rela_at) in
      chosen_fault (relocation_choice addends file selected rela_at) (relocation_choice addends file style rela_at) (relocation_prefix addends style.format style.gnu (e_machine file) file rela_at section) named.0 named.1

  pub relocations_same : (addends : Bool) → IsSame (relocations addends)
  unfolding relocations
  relocations_same addends section at =
      each_fault (relocation_row addends file selected section at) (relocation_row addends file style section at) (relocation_same addends section at) 0 (entry_count file at (relocation_size addends))

  relr_same : (section word_at address : ℕ) → SameFault (relr_row file selected section word_at address) (relr_row file style section word_at address)
  unfolding relr_row
  relr_same section word_at address = by (nat_lt LAST_ADDRESS address)
    where
      here : ListingStyle → RowFilter
      here shown = placed_choice shown (place_of_relr file word_at address) shown.choice

      row : Bool → ListingStyle → List ListingItem
      row past shown = if past then refused_row word_at Relr else chosen_row (here shown) (relr_prefix shown.format address section) word_at no_name

      by : (past : Bool) → SameFault (row past selected) (row past style)
      by true = alike
      by false = chosen_fault (here selected) (here style) (relr_prefix style.format address section) word_at no_name

  bit_same : (section word_at base word bit : ℕ) → SameFault (bit_row file selected section word_at base word bit) (bit_row file style section word_at base word bit)
  unfolding bit_row
  bit_same section word_at base word bit = by (word / 2 ^ (bit + 1) % 2 == 1)
    where
      by : (set : Bool)
          → SameFault (if set then relr_row file selected section word_at (base + 8 * bit) else []) (if set then relr_row file style section word_at (base + 8 * bit) else [])
      by true = relr_same section word_at (base + 8 * bit)
      by false = alike

  word_same : (section word_at : ℕ) (base : Option ℕ) (word : ℕ) → SameFault (word_rows file selected section word_at base word) (word_rows file style section word_at base word)
  unfolding word_rows
  word_same section word_at base word = by (is_bitmap word) base
    where
      bits : Option ℕ → ListingStyle → List ListingItem
      bits from shown = elim from as (λ _. List ListingItem) [
        | None ↦ refused_row word_at Relr
        | Some address ↦ each (bit_row file shown section word_at address word) 0 RELR_BITS
      ]

      by_base : (from : Option ℕ) → SameFault (bits from selected) (bits from style)
      by_base None = alike
      by_base (Some address) =
          each_fault (bit_row file selected section word_at address word) (bit_row file style section word_at address word) (bit_same section word_at address word) 0 RELR_BITS

      by : (bitmap : Bool) (from : Option ℕ)
          → SameFault (if bitmap then bits from selected else relr_row file selected section word_at word) (if bitmap then bits from style else relr_row file style section word_at word)
      by true from = by_base from
      by false from = relr_same section word_at word

  relr_rows_same : (section at index : ℕ) → SameFault (relr_rows file selected section at index) (relr_rows file style section at index)
  unfolding relr_rows
  relr_rows_same section at index =
      let word_at : ℕ = entry_at file at 8 index in
      word_same section word_at (bitmap_base file (sh_offset file at) index) (relr_word file word_at)

  pub relative_same : IsSame relative_relocations
  unfolding relative_relocations
  relative_same section at = each_fault (relr_rows file selected section at) (relr_rows file style section at) (relr_rows_same section at) 0 (entry_count file at 8)

  -- of one kind or another
  pub either_same : (one other : TableKind) → IsSame one → IsSame other → IsSame (either_kind one other)
  either_same one other first second section at = by (one.has_table file at)
    where
      by : (has : Bool)
          → SameFault (if has then one.rows file selected section at else other.rows file selected section at) (if has then one.rows file style section at else other.rows file style section at)
      by true = first section at
      by false = second section at

  suffixed_symbol_same : (section at index : ℕ) → SameFault (symbol_row_with_version file selected section at index) (symbol_row_with_version file style section at index)
  unfolding symbol_row_with_version
  suffixed_symbol_same section at index =
      let symbol_at : ℕ = entry_at file at 24 index in
      suffixed_fault (symbol_choice file selected at symbol_at) (symbol_choice file style at symbol_at) (symbol_prefix style.format style.gnu (e_machine file) file symbol_at section index) symbol_at
      (shown_name (strings_of file at) (st_name file symbol_at) style.cap) (symbol_suffix file style.cap section symbol_at index)

  pub suffixed_symbols_same : IsSame suffixed_symbols
  unfolding suffixed_symbols suffixed_symbol_rows
  suffixed_symbols_same section at =
      after_fault (suffixes_refusal file section)
      (each_fault (symbol_row_with_version file selected section at) (symbol_row_with_version file style section at) (suffixed_symbol_same section at) 0 (entry_count file at 24))

  suffixed_relocation_same : (addends : Bool) (section at index : ℕ) → SameFault (relocation_row_with_version addends file selected section at index) (relocation_row_with_version addends file style section at index)
  unfolding relocation_row_with_version
  suffixed_relocation_same addends section at index =
      let rela_at : ℕ = entry_at file at (relocation_size addends) index in
      let symbol : ℕ = r_sym file rela_at in
      let named = symbol_named file style.cap at rela_at symbol in
      suffixed_fault (relocation_choice addends file selected rela_at) (relocation_choice addends file style rela_at) (relocation_prefix addends style.format style.gnu (e_machine file) file rela_at section) named.0 named.1
      (if symbol == 0 then Ok NoSuffix
      else symbol_suffix file style.cap (sh_link file at) (entry_at file (linked_at file at) 24 symbol) symbol)

  pub suffixed_relocations_same : (addends : Bool) → IsSame (relocations_with_versions addends)
  unfolding relocations_with_versions suffixed_relocation_rows
  suffixed_relocations_same addends section at =
      let count : ℕ = entry_count file at (relocation_size addends) in
      after_fault (if has_symbols file at && not (count == 0) then suffixes_refusal file (sh_link file at) else None)
      (each_fault (relocation_row_with_version addends file selected section at) (relocation_row_with_version addends file style section at) (suffixed_relocation_same addends section at) 0 count)

  notes_same : (index a : ℕ) (notes : List NoteRow) → SameFault (notes_rows selected index a notes) (notes_rows style index a notes)
  unfolding notes_rows note_row
  notes_same index a [] = alike
  notes_same index a (row ∷ others) =
      appended (line_fault (shows_place place (place_of_record row.at (padded_size a row.note))) (shows_place style.place (place_of_record row.at (padded_size a row.note))) _) (notes_same index a others)

  pub section_notes_same : IsSame section_notes
  unfolding section_notes walk_rows
  section_notes_same section at =
      let a = note_align (sh_addralign file at) in
      appended (notes_same section a (note_rows a (sh_offset file at) (walked a (slice file (sh_offset file at) (sh_size file at))).notes)) alike

  pub segment_notes_same : IsSame segment_notes
  unfolding segment_notes walk_rows
  segment_notes_same section at =
      let a = note_align (p_align file at) in
      appended (notes_same section a (note_rows a (p_offset file at) (walked a (slice file (p_offset file at) (p_filesz file at))).notes)) alike

  dynamic_same : (strings : ℕ → Result (List ℕ) Refusal) (at index : ℕ) → SameFault (dynamic_row file selected strings at index) (dynamic_row file style strings at index)
  unfolding dynamic_row
  dynamic_same strings at index = by (is_string_tag (d_tag file at)) (strings at)
    where
      front : LinePrefix
      front = dynamic_prefix style.format style.gnu file at index

      here : ListingStyle → RowFilter
      here shown = placed_choice shown (place_of_dynamic at) EveryRow

      rest : ListingStyle → Result (List ℕ) Refusal → List ListingItem
      rest shown table =
          elim table as (λ _. List ListingItem) [
            | Err refusal ↦ Fault refusal ∷ []
            | Ok table ↦ chosen_row (here shown) front at (shown_name table (d_un file at) shown.cap)
          ]

      by_table : (table : Result (List ℕ) Refusal) → SameFault (rest selected table) (rest style table)
      by_table (Err refusal) = alike
      by_table (Ok table) = chosen_fault (here selected) (here style) front at (shown_name table (d_un file at) style.cap)

      by : (string : Bool) (table : Result (List ℕ) Refusal)
          → SameFault (elim string as (λ _. List ListingItem) [ false ↦ chosen_row (here selected) front at (value_name file selected.format at) | true ↦ rest selected table ])
          (elim string as (λ _. List ListingItem) [ false ↦ chosen_row (here style) front at (value_name file style.format at) | true ↦ rest style table ])
      by false table = chosen_fault (here selected) (here style) front at (value_name file style.format at)
      by true table = by_table table

  dynamics_same : (offset entries : ℕ) (strings : ℕ → ℕ → Result (List ℕ) Refusal) → SameFault (dynamic_rows file selected offset entries strings) (dynamic_rows file style offset entries strings)
  dynamics_same offset entries strings =
      let count = dynamic_count file offset entries in
      each_fault (λ i. dynamic_row file selected (strings count) (dynamic_at offset i) i) (λ i. dynamic_row file style (strings count) (dynamic_at offset i) i)
      (λ i. dynamic_same (strings count) (dynamic_at offset i) i) 0 count

  pub section_dynamic_same : IsSame section_dynamic
  unfolding section_dynamic
  section_dynamic_same section at = dynamics_same (sh_offset file at) (entry_count file at 16) (λ n dynamic_at. Ok (strings_of file at))

  pub segment_dynamic_same : IsSame segment_dynamic
  unfolding segment_dynamic
  segment_dynamic_same section at = dynamics_same (p_offset file at) (p_filesz file at / 16) (mapped_strings file (p_offset file at))

  visited_same : (section : ℕ) (strings : List ℕ) (met : List VisitedRecord) → SameFault (visited_rows file selected section strings met) (visited_rows file style section strings met)
  unfolding visited_rows version_row
  visited_same section strings [] = alike
  visited_same section strings (first ∷ others) =
      appended
      (chosen_fault (placed_choice selected (place_of_version file first) rows) (placed_choice style (place_of_version file first) style.choice) (version_prefix style.format first.kind section (number_word file first) (flags_word file first) (hash_word file first))
      (named_at file first) (shown_name strings (name_index file first) style.cap))
      (visited_same section strings others)

  pub definitions_same : IsSame version_definitions
  unfolding version_definitions versions_rows
  definitions_same section at =
      appended (visited_same section (strings_of file at) (section_versions Definition file at).met) alike

  pub needs_same : IsSame version_needs
  unfolding version_needs versions_rows
  needs_same section at =
      appended (visited_same section (strings_of file at) (section_versions File file at).met) alike

  numbered_same : (front : LinePrefix) (entry number : ℕ) → SameFault (numbered_row file selected front entry number) (numbered_row file style front entry number)
  unfolding numbered_row
  numbered_same front entry number = by (nat_lt number 2) (version_named file number)
    where
      here : ListingStyle → RowFilter
      here shown = placed_choice shown (place_of_record entry 2) shown.choice

      listed : ListingStyle → Bool → Option VisitedRecord → List ListingItem
      listed shown few named =
          if few then chosen_row (here shown) front entry no_name
          else elim named as (λ _. List ListingItem) [
            | None ↦ refused_row entry VersionIndex
            | Some met ↦ chosen_row (here shown) front (named_at file met) (shown_name (version_strings file met.kind) (name_index file met) shown.cap)
          ]

      by : (few : Bool) (named : Option VisitedRecord) → SameFault (listed selected few named) (listed style few named)
      by true named = chosen_fault (here selected) (here style) front entry no_name
      by false None = alike
      by false (Some met) =
          chosen_fault (here selected) (here style) front (named_at file met) (shown_name (version_strings file met.kind) (name_index file met) style.cap)

  symbol_version_same : (section at index : ℕ) → SameFault (symbol_version_row file selected section at index) (symbol_version_row file style section at index)
  unfolding symbol_version_row
  symbol_version_same section at index =
      let entry : ℕ = entry_at file at 2 index in
      let word : ℕ = versym file entry in
      numbered_same (symbol_version_prefix style.format section index word) entry (number_in word)

  pub symbol_versions_same : IsSame symbol_versions
  unfolding symbol_versions symbol_version_rows
  symbol_versions_same section at = by (sh_size file at == 0)
    where
      ended : List ListingItem
      ended = if nat_lt (entry_count file at VERSYM_SIZE) (versioned_symbols file at) then refused_row at VersionCut else []

      by : (empty : Bool)
          → SameFault (if empty then [] else each (symbol_version_row file selected section at) 0 (versioned_count file at) ++ ended)
          (if empty then [] else each (symbol_version_row file style section at) 0 (versioned_count file at) ++ ended)
      by true = alike
      by false =
          appended
          (each_fault (symbol_version_row file selected section at) (symbol_version_row file style section at) (symbol_version_same section at) 0 (versioned_count file at))
          alike

  -- the tables of some kinds
  abbrev pub AreSame : List TableKind → Type 0
  AreSame [] = Unit {0}
  AreSame (kind ∷ kinds) = IsSame kind × AreSame kinds

  table_same : (kind : TableKind) → IsSame kind → (index at : ℕ) → SameFault (table_rows kind file selected index at) (table_rows kind file style index at)
  unfolding table_rows
  table_same kind same index at = where_fault (kind.has_table file at) (guarded_fault (all_checks kind.checks file at) (same index at))

  kinds_same : (kinds : List TableKind) (headers : HeaderTable) (parts : ℕ) → AreSame kinds → SameFault (kinds_rows kinds headers file selected parts) (kinds_rows kinds headers file style parts)
  unfolding kinds_rows
  kinds_same [] headers parts same = alike
  kinds_same (kind ∷ kinds) headers parts (same, others) =
      appended (where_fault (has parts kind.part) (each_fault (λ i. table_rows kind file selected i (headers.at i)) (λ i. table_rows kind file style i (headers.at i)) (λ i. table_same kind same i (headers.at i)) 0 headers.count))
      (kinds_same kinds headers parts others)

  section_same : (index : ℕ) → SameFault (section_row file selected index) (section_row file style index)
  unfolding section_row
  section_same index =
      let at : ℕ = section_at file index in
      chosen_fault (placed_choice selected (place_of_section file at) EveryRow) (placed_choice style (place_of_section file at) EveryRow)
      (section_prefix style.format style.gnu (e_machine file) file at index) at (section_name file at style.cap)

  segment_same : (index : ℕ) → SameFault (segment_row file selected index) (segment_row file style index)
  unfolding segment_row
  segment_same index =
      let at : ℕ = segment_at file index in
      line_fault (shows_place place (place_of_segment file at)) (shows_place style.place (place_of_segment file at)) _

  -- what dynamic entries locate
  located_row_same : (addends : Bool) (segment : ℕ) (symbols : Option LocatedSymbols) (table_at index : ℕ)
      → SameFault (located_row addends file selected segment symbols table_at index) (located_row addends file style segment symbols table_at index)
  unfolding located_row
  located_row_same addends segment symbols table_at index =
      let rela_at : ℕ = table_at + relocation_size addends * index in
      let named = named_among file style.cap symbols rela_at (r_sym file rela_at) in
      chosen_fault (relocation_choice addends file selected rela_at) (relocation_choice addends file style rela_at) (relocation_prefix addends style.format style.gnu (e_machine file) file rela_at segment) named.0 named.1

  entries_rows_same : (addends : Bool) (segment : ℕ) (table : LocatedTable) (symbols : Result (Option LocatedSymbols) Refusal)
      → SameFault (entries_rows addends file selected segment table symbols) (entries_rows addends file style segment table symbols)
  unfolding entries_rows
  entries_rows_same addends segment table (Err refusal) = alike
  entries_rows_same addends segment table (Ok symbols) =
      each_fault (located_row addends file selected segment symbols table.place) (located_row addends file style segment symbols table.place) (located_row_same addends segment symbols table.place) 0 table.count

  words_same : (segment table_at index : ℕ) → SameFault (relr_rows_at file selected segment table_at index) (relr_rows_at file style segment table_at index)
  words_same segment table_at index =
      let word_at : ℕ = table_at + 8 * index in
      word_same segment word_at (bitmap_base file table_at index) (relr_word file word_at)

  form_same : (form : RelocationForm) (segment : ℕ) (table : LocatedTable) (symbols : Result (Option LocatedSymbols) Refusal)
      → SameFault (form_rows form file selected segment table symbols) (form_rows form file style segment table symbols)
  unfolding form_rows
  form_same Relative segment table symbols =
      each_fault (relr_rows_at file selected segment table.place) (relr_rows_at file style segment table.place) (words_same segment table.place) 0 table.count
  form_same WithoutAddends segment table symbols = entries_rows_same false segment table symbols
  form_same WithAddends segment table symbols = entries_rows_same true segment table symbols

  located_same : (segment : ℕ) (table : Result (Option LocatedTable) Refusal) (symbols : Result (Option LocatedSymbols) Refusal)
      → SameFault (located_rows file selected segment table symbols) (located_rows file style segment table symbols)
  unfolding located_rows
  located_same segment (Err refusal) symbols = alike
  located_same segment (Ok None) symbols = alike
  located_same segment (Ok (Some table)) symbols = form_same table.form segment table symbols

  one_table_same : (segment at : ℕ) (table : RelocationTable) → SameFault (relocation_table_rows file selected segment at table) (relocation_table_rows file style segment at table)
  unfolding relocation_table_rows
  one_table_same segment at table = located_same segment (located_table file at table) (located_symbols file at)

  four_same : (segment at : ℕ) → SameFault (segment_relocations file selected segment at) (segment_relocations file style segment at)
  unfolding segment_relocations
  four_same segment at =
      appended (appended (appended (one_table_same segment at RelrTable) (one_table_same segment at Rel)) (one_table_same segment at Rela)) (one_table_same segment at Jmprel)

  segment_tables_same : (parts segment at : ℕ) → SameFault (segment_tables file selected parts segment at) (segment_tables file style parts segment at)
  unfolding segment_tables segment_symbol_rows
  segment_tables_same parts segment at =
      appended (where_fault (has parts SYMBOLS) (by_hash_same file style rows filter place segment at (hash_row file at))) (where_fault (has parts RELOCS) (four_same segment at))

  first_same : (parts : ℕ) (segment : Option ℕ) → SameFault (first_segment_tables file selected parts segment) (first_segment_tables file style parts segment)
  unfolding first_segment_tables
  first_same parts None = alike
  first_same parts (Some segment) = guarded_fault (segment_dynamic_checks file (segment_at file segment)) (segment_tables_same parts segment (segment_at file segment))

  tables_located_same : (parts : ℕ) → SameFault (dynamic_tables file selected parts) (dynamic_tables file style parts)
  unfolding dynamic_tables
  tables_located_same parts = guarded_fault (overlap_checks file) (first_same parts (dynamic_segment_index file))

  if_same : (asked : Bool) → {a b : List ListingItem} → SameFault a b → SameFault (if asked then a else []) (if asked then b else [])
  if_same true items = items
  if_same false items = alike

  items_located_same : (parts : ℕ) → SameFault (located_items file selected parts) (located_items file style parts)
  unfolding located_items
  items_located_same parts = if_same (locates_tables file style parts) (tables_located_same parts)

  header_same : SameFault (header_row selected file) (header_row style file)
  header_same = line_fault (shows_place place place_of_header) (shows_place style.place place_of_header) _

  tables_same : AreSame (table_headers style.gnu style.versions file).kinds → (parts : ℕ) → SameFault (table_items file selected parts) (table_items file style parts)
  unfolding table_items
  tables_same same parts =
      let tables = table_headers style.gnu style.versions file in
      appended
      (appended
      (appended (where_fault (has parts SECTIONS) (each_fault (section_row file selected) (section_row file style) section_same 0 (e_shnum file)))
      (where_fault (has parts SEGMENTS) (each_fault (segment_row file selected) (segment_row file style) segment_same 0 (e_phnum file))))
      (items_located_same parts))
      (kinds_same tables.kinds tables.headers parts same)

  loads_same : AreSame (table_headers style.gnu style.versions file).kinds → (headers parts : ℕ) → SameFault (load_items file headers selected parts) (load_items file headers style parts)
  unfolding load_items loaded_items view_checks
  loads_same same headers parts =
      where_fault (has_tables parts) (guarded_fault (load_checks file headers) (guarded_fault (view_checks file style parts) (tables_same same parts)))

-- whatever rows are shown, the rows of a kind have the same first fault
abbrev pub SelectsAlike : TableKind → Type 0
SelectsAlike kind = (file : List ℕ) (style : ListingStyle) (rows : RowFilter) (filter : SymbolFilter) (place : PlaceFilter) → IsSame file style rows filter place kind

-- and so has a listing, if the rows of each kind have
abbrev kinds_of : List ℕ → ListingStyle → List TableKind
kinds_of file style = (table_headers style.gnu style.versions (viewed style file)).kinds

pub hides_no_fault : (file : List ℕ) (headers : ℕ) (style : ListingStyle) (parts : ℕ) (rows : RowFilter) (filter : SymbolFilter) (place : PlaceFilter)
    → AreSame (viewed style file) style rows filter place (kinds_of file style)
    → fault_of (listing file headers (selected file style rows filter place) parts) ≡ fault_of (listing file headers style parts)
unfolding listing
hides_no_fault file headers style parts rows filter place same =
    (guarded_fault (header_checks file) (appended (where_fault (has parts HEADER) (header_same file style rows filter place)) (loads_same (viewed style file) style rows filter place same headers (known_parts style parts)))).same
