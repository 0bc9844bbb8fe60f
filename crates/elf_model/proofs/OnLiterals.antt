-- What unfolds each definition, so that it computes on a file given byte by byte.
use Rattle.std.specs.Fmt.{digits}
use Rattle.elf_model.specs.Prelude.{abi_systems, abi_tag, address_in, address_named, aligned_note, and_patches, applied, apply_checks, apply_cost, apply_cost_by_order, apply_cost_in_order, archive_ceiling, archive_cost, archive_fault, archive_items, archive_of, bare_header, base_value, before_strings, begins, begun, bindings, bit_row, bitmap_base, bsd_name, bsd_name_length, bucket_of, build_note, cause_word, ceiling, change_of, changes_of, closing, core_types, cost_with, counted_rows, counts_check, data_after, defined_layout, defined_name, definition, descriptor_cell, descriptor_digits, digit, dynamic_count, dynamic_flags, dynamic_flags_1, dynamic_prefix, dynamic_row, dynamic_segment_index, dynamic_tables, dynamic_tag_text, dynamic_tags, dynamic_value, each, empty_layout, end_among, end_at_word, entries_for, entries_in, entries_rows, entry_changes, entry_checks, entry_layout, entry_value, escaped, falling_relocations, field, file_header, file_header_items, file_magic, file_type_text, file_types, find_cost, first_fault, first_hash, first_segment_tables, first_that, fits_in_range, flag_words, flags_column, flags_text, flags_word, form_rows, full_layout, further_relocation_types, further_section_flags, further_section_types, gnu_bindings, gnu_content, gnu_dynamic_tags, gnu_section_flags, gnu_section_types, gnu_segment_types, gnu_symbol_types, gnu_symbols, halfwords, has_base, hash_checks, hash_file, hash_row, hash_with_cycle, hash_with_end, hash_word, hashed_symbol_count, hashed_symbol_row, hashed_symbol_rows, header_cost, header_line, held_bytes, hex, hex_bytes, hostile_library, is_elsewhere, is_loadable, is_system_specific, kind_in, kind_of, kind_text, kinds, kinds_cost, kinds_rows, layout_names_cost, left_in, letter_or_dash, letters_and_mark, letters_of, library, library_header, library_strings, library_without_sections, line_described, line_named, linked_to_first, linked_to_zero, linux_core_types, listing, listing_cost, little, load_items, loaded, loaded_at, loaded_items, loaded_section, loads_from, located_cost, located_items, located_row, located_rows, located_symbols, located_table, long_name, long_names, long_offset, longest, looked, looked_in, looked_up, lookup_at, lookup_cost, lookup_end, mapped_from, mapped_strings, max_bucket, member, member_cost, member_data, member_header, member_key, member_name, member_prefix, member_size, members_cost, members_from, members_items, members_of, modulo_2_64, name_byte_text, name_distance, name_end, name_in_data, name_index, name_of, name_text, named_among, named_by, named_section, named_value, names_version, needed_file, needed_library, needed_version, needed_with, never_fall_from, next_member, next_note, next_position, next_property, next_word, note_content, note_prefix, note_row, note_rows, note_segment, note_shown, notes_rows, number, number_sign, number_word, numbered_row, numbers_from, object, object_with, odd_name, offsets_at, offsets_never_fall, one_call, one_load, one_segment, one_symbol_table, one_table, overlap_checks, overlapping_in_other_order, overlapping_relocations, overlaps_from, padded_number, padded_to, parse_padded_decimal, parsed_member_name, parsed_member_size, patch_of, patched, patches_of, path_front, place_value, placed_layout, places, places_from, plain_note, plt_entry_value, processor_section_flags, program_header, properties_from, properties_in, properties_text, property_text, put, quoted, record_checks, refusal_line_in, relocated, relocation, relocation_prefix, relocation_row, relocation_table_rows, relocation_type_text, relocation_types, relr_prefix, relr_row, relr_rows, repeated_tags, rest_checks, rest_size, right_decimal, right_in, rising_relocations, rows_by_hash, rows_checks, same, same_symbol, section_changes, section_flags, section_flags_text, section_header, section_name, section_prefix, section_row, section_symbol_value, section_type_text, section_types, sections_cost, segment_checks, segment_flags_text, segment_line, segment_lookup_tables, segment_relocations, segment_row, segment_strings, segment_strings_at, segment_symbol_rows, segment_symbols, segment_tables, segment_type_text, segment_types, segment_words, segments_cost, shape_checks, short_name, shown, signed_text, special_layout, special_places, standard_bindings, standard_dynamic_tags, standard_places, standard_relocation_types, standard_section_flags, standard_section_types, standard_segment_types, standard_symbol_types, steps_line, string_byte, string_text, strings_at, sum_over, symbol, symbol_named, symbol_prefix, symbol_row, symbol_types, symbol_value, symbol_version_prefix, symbol_version_row, symbol_version_rows, symbols_by, symbols_hashed, symbols_mapped, symbols_with_versions, system_value, sysv_hash, table_by, table_cost, table_headers, table_items, table_layout, table_mapped, table_of_rows, table_rows, tables_ceiling, tables_cost, tables_over_headers, tagged, tagged_row, tells_of_sections, third_overflows, trimmed, two_relocation_sections, unfound, unnamed_value, unplaced_layout, value, version_named, version_of, version_prefix, version_row, version_strings, version_word, versioned_body, versioned_cost, versioned_dynamic, versioned_hash, versioned_library, versioned_records, versioned_sections, versioned_segments, versioned_strings, versioned_without_sections, versions_in, versions_rows, view_checks, visibilities, visited_from, visited_rows, walk_cost, walk_from, walk_items, walk_rows, walk_word, walked, walks_cost, where_based, whole, with_bytes, with_entries_header, with_field, with_hash_header, with_properties, with_strings_header, with_symbol, with_symbols_header, without_sections_from, without_slash, word_at, word_rows, words, words_from, words_row, x86_64_places, x86_64_section_flags, x86_64_section_types, x86_features, x86_levels, zeros}
use Rattle.elf_model.proofs.KindLists.{on_kinds}

unfoldable pub on_literals : Unit {0}
unfolding signed_text string_byte string_text quoted member_key begun with_field closing digits number field little shown begins same next_note walk_from walked note_rows note_shown dynamic_count dynamic_value mapped_from strings_at mapped_strings digit hex left_in right_in right_decimal name_of cause_word standard_section_types gnu_section_types x86_64_section_types further_section_types section_types section_type_text standard_section_flags gnu_section_flags x86_64_section_flags processor_section_flags further_section_flags section_flags letters_of letters_and_mark flags_column section_flags_text standard_segment_types gnu_segment_types segment_types segment_type_text letter_or_dash segment_flags_text standard_symbol_types gnu_symbol_types symbol_types standard_bindings gnu_bindings bindings visibilities standard_places x86_64_places places standard_relocation_types further_relocation_types relocation_types number_sign relocation_type_text standard_dynamic_tags gnu_dynamic_tags dynamic_tags dynamic_tag_text tells_of_sections without_sections_from section_prefix symbol_prefix relocation_prefix relr_prefix note_prefix dynamic_prefix file_types file_type_text header_line segment_line steps_line name_byte_text escaped name_text line_named line_described hex_bytes descriptor_digits descriptor_cell note_content gnu_content abi_systems abi_tag x86_features x86_levels property_text with_properties properties_text next_property properties_from properties_in core_types linux_core_types dynamic_flags dynamic_flags_1 words_from flags_text flag_words each file_header_items section_name section_row segment_row symbol_row symbol_named relocation_row relr_row bit_row bitmap_base word_rows relr_rows note_row notes_rows walk_rows dynamic_row on_kinds table_headers table_rows kinds_rows table_items loads_from overlaps_from overlap_checks view_checks loaded_items load_items listing sum_over table_cost kinds_cost is_loadable sections_cost segments_cost tables_cost listing_cost ceiling words hash_file hash_with_cycle hash_with_end with_hash_header with_symbols_header with_strings_header relocation relocated overlapping_relocations overlapping_in_other_order third_overflows rising_relocations falling_relocations one_call two_relocation_sections with_symbol with_entries_header linked_to_zero empty_layout placed_layout defined_layout entry_layout unplaced_layout special_layout full_layout numbers_from tables_over_headers one_table program_header one_segment one_load plain_note build_note note_segment aligned_note tagged needed_library repeated_tags named_section special_places odd_name linked_to_first object_with object library_strings loaded_at loaded needed_with library_without_sections zeros with_bytes file_header section_header symbol bare_header one_symbol_table whole modulo_2_64 fits_in_range kinds kind_in kind_of patch_of value sysv_hash bucket_of walk_word word_at same_symbol end_at_word lookup_at end_among lookup_end looked_up first_that first_hash hash_checks shape_checks looked_in looked find_cost address_in address_named is_system_specific system_value section_symbol_value symbol_value plt_entry_value place_value held_bytes named_value entry_checks change_of entry_changes places_from section_changes changes_of and_patches patches_of put patched apply_checks applied entries_in entries_for offsets_at never_fall_from offsets_never_fall longest lookup_cost layout_names_cost cost_with apply_cost apply_cost_in_order apply_cost_by_order parse_padded_decimal padded_number trimmed parsed_member_size member_size bsd_name_length name_in_data data_after member_data short_name long_offset without_slash long_name bsd_name parsed_member_name member_name next_member members_from members_of member_prefix members_items walk_items archive_items is_elsewhere header_cost members_cost archive_cost archive_ceiling padded_to member_header member archive_of library long_names member_cost version_word number_word flags_word hash_word next_word name_distance name_end name_index record_checks next_position visited_from versions_in names_version named_by version_of kind_text version_prefix version_row visited_rows versions_rows version_named version_strings symbol_version_prefix numbered_row symbol_version_row symbol_version_rows walk_cost walks_cost versioned_cost loaded_section definition defined_name needed_file needed_version halfwords library_header versioned_segments versioned_hash symbols_with_versions versioned_strings versioned_records versioned_dynamic versioned_body versioned_sections versioned_library versioned_without_sections hostile_library table_layout entry_value base_value unnamed_value has_base where_based path_front file_magic first_fault archive_fault refusal_line_in dynamic_tables entries_rows first_segment_tables segment_tables segment_symbol_rows rows_by_hash hashed_symbol_rows counted_rows hashed_symbol_row symbols_hashed hashed_symbol_count gnu_symbols max_bucket before_strings unfound hash_row rows_checks segment_checks segment_lookup_tables segment_strings segment_strings_at segment_symbols segment_words words_row counts_check form_rows located_cost located_items located_row located_rows located_symbols located_table named_among relocation_table_rows segment_relocations symbols_by symbols_mapped table_by table_mapped table_of_rows tables_ceiling dynamic_segment_index tagged_row rest_checks rest_size
on_literals = tt
