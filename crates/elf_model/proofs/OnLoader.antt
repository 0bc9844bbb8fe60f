-- What unfolds the definitions of a loader's lookup, besides `OnLiterals`, so that they compute on
-- a file given byte by byte.
use Rattle.std.specs.Int.RustNames.{count_ones}
use Rattle.elf_model.specs.Prelude.{answers, compared_with, counts_check, dynamic_segment_index, filter_may_contain, fits, found_in, found_version_line, gnu_bucket_of, gnu_end, gnu_hash, gnu_looked_up, gnu_tried, gnu_walk_end, gnu_walked_at, gnu_word_at, hash_row, hash_section, is_complete, is_exported, loaded_in, loader_answer_for, loader_ceiling, loader_cost, loader_looked, looked_by, lookup_asks, lookup_tables_by_segments, lookup_tables_of, meetings, named_by_record, naming_of, parse_query, position_after, readings, readings_of, rest_checks, rest_size, rows_checks, scope_by_sections, scope_in_segment, scope_in_segments, section_lookup_tables, section_words, segment_checks, segment_lookup_tables, segment_strings, segment_strings_at, segment_symbols, segment_words, segments_asked, sysv_bucket_of, sysv_end, sysv_walk_end, sysv_walked, sysv_walked_at, sysv_word_at, tagged_row, version_checks, version_fits, version_indices, walk_in, words_row, words_section}

unfoldable pub on_loader : Unit {0}
unfolding count_ones gnu_hash filter_may_contain gnu_bucket_of gnu_word_at gnu_end gnu_tried gnu_walked_at gnu_walk_end gnu_looked_up sysv_bucket_of sysv_word_at sysv_end sysv_walked_at sysv_walk_end sysv_walked parse_query is_complete is_exported fits version_fits answers position_after meetings readings_of readings compared_with naming_of hash_section words_section version_checks section_words section_lookup_tables dynamic_segment_index tagged_row rest_checks rest_size hash_row words_row rows_checks segment_checks segment_strings segment_strings_at segment_words segment_symbols segment_lookup_tables scope_by_sections scope_in_segment scope_in_segments lookup_tables_by_segments lookup_tables_of counts_check walk_in named_by_record found_in looked_by version_indices loaded_in loader_looked segments_asked lookup_asks loader_cost loader_ceiling found_version_line loader_answer_for
on_loader = tt
