-- What unfolds the words of the examples of the GNU extensions, besides those of the definitions.
use Rattle.elf_examples.specs.ExamplesLoaderCache.{both_shapes, new_shape, old_shape}
use Rattle.elf_examples.specs.Prelude.{asked_within, gnu_table_of, located_entries, located_library, located_listed, located_style, located_tables, long_version, named_listed, parts_listed, relative_words, relocations_listed, rows_named, style_with, symbols_listed, symbols_located, symbols_selected, three_types, versions_listed, with_versions}
use Rattle.elf_model.specs.Prelude.{after_old_cache, bisected, cache_name_order, cache_text, cached_path, define_version, first_path, first_same, flags_1_by_segments, interpreter_at, interpreter_by_segments, interpreter_front, interpreter_of, interpreter_state, is_interpreter, is_new_header, is_old_header, is_program_file, key_order, library_file, library_links, line_suffixed, link_text, linked_by, linked_from, linked_in, linked_with, links_by_segments, links_ceiling, links_of, loaded_interpreter, loaded_links, loader_cache, lookup_refusal, machine_in, most_bytes, name_ranks, needed_version_front, needed_versions, parse_query, path_in_cache, path_of_entry, rank_order, version_records_at, relocation_row_with_version, state_by_segments, state_in_file, state_of_needed, suffix_at, suffix_members, suffix_text, suffixed_relocation_rows, suffixed_symbol_rows, suffixes_refusal, symbol_row_with_version, symbol_suffix, version_item, version_items_from, version_items_of, version_member, version_state_name, versions_needed_at, versions_needed_by_segments, walk_refusal, whole_name, word_suffix}

unfoldable pub on_gnu_examples : Unit {0}
unfolding located_entries located_library located_listed located_style located_tables relative_words relocations_listed style_with three_types gnu_table_of long_version parts_listed versions_listed most_bytes rows_named named_listed line_suffixed suffix_at suffix_members suffix_text relocation_row_with_version suffixed_relocation_rows symbol_row_with_version suffixed_symbol_rows suffixes_refusal symbol_suffix version_member walk_refusal word_suffix parse_query asked_within symbols_listed symbols_located symbols_selected with_versions link_text linked_by linked_with linked_from linked_in lookup_refusal loaded_links links_by_segments links_of links_ceiling after_old_cache bisected cache_text cached_path first_path first_same is_new_header is_old_header key_order loader_cache cache_name_order name_ranks path_in_cache path_of_entry rank_order new_shape old_shape both_shapes interpreter_at interpreter_by_segments interpreter_front interpreter_of interpreter_state is_interpreter loaded_interpreter machine_in whole_name define_version flags_1_by_segments is_program_file library_file library_links needed_version_front needed_versions version_records_at state_by_segments state_in_file state_of_needed version_item version_items_from version_items_of version_state_name versions_needed_at versions_needed_by_segments
on_gnu_examples = tt
