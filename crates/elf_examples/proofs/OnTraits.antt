-- What unfolds the definitions of traits, besides those of listings and lookups, so that they
-- compute on a file given byte by byte.
use Rattle.elf_model.specs.Prelude.{before_strings, binds_now, canary_word, cet_word, check_front, column_name, column_word, dynamic_entry_value, features_in, file_kind_name, file_status_name, find_symbol_traits, first_listing, first_property, fortify_word, gnu_symbols, has_text_relocations, has_wx_load, hash_words_asked, hashed_symbol_count, is_any_of, is_fortify_call, is_program, is_stack_executable, kind_of_shared, known_symbols, lacking, lacking_columns, lacking_line, lacking_lines, listed_from, listed_in, loaded_traits, marks_from, max_bucket, next_property, pages_word, path_of, path_word, pieces_at, program_kind, properties_asked, properties_from, properties_in, property_list, relro_of, relro_text, relro_word, is_relocatable, loaded_stack, sections_asked, segment_traits, segment_traits_cost, stack_asked, stack_by_sections, stack_by_segments, stack_section, stack_word, symbols_asked, text_word, trait_entries_asked, trait_front, traits_by_segments, traits_ceiling, traits_cost, traits_of, traits_status, traits_text, traits_with, traits_with_stack, unfound, x86_feature_word}
use Rattle.elf_examples.specs.ExamplesStack.{named_header, object_of_section}
use Rattle.elf_examples.specs.TraitFiles.{headers_of_program, program_hash, program_symbols, program_strings, program_note, program_entries, program_with_traits, property, trait_line_of}

unfoldable pub on_traits : Unit {0}
unfolding file_status_name check_front next_property properties_from properties_in first_listing listed_in listed_from property_list first_property features_in is_stack_executable has_wx_load dynamic_entry_value binds_now relro_of has_text_relocations path_of kind_of_shared program_kind segment_traits stack_by_segments is_relocatable stack_section loaded_stack stack_by_sections traits_with_stack x86_feature_word known_symbols max_bucket before_strings unfound gnu_symbols hashed_symbol_count is_any_of is_fortify_call marks_from find_symbol_traits traits_with loaded_traits traits_by_segments traits_of file_kind_name relro_text relro_word stack_word pages_word text_word cet_word canary_word fortify_word path_word trait_front column_name column_word pieces_at is_program lacking_columns lacking_lines lacking lacking_line traits_text traits_status trait_entries_asked properties_asked hash_words_asked symbols_asked segment_traits_cost sections_asked stack_asked traits_cost traits_ceiling headers_of_program program_hash program_symbols program_strings program_note program_entries program_with_traits property trait_line_of named_header object_of_section
on_traits = tt
