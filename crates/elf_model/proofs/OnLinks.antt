-- What unfolds the words of links, so that they compute on small links.
use Rattle.elf_model.specs.LinkArchives.{archive_index, archive_input, index_symbols, input_of, link_answer, link_cause_word, link_members_from, members_as_objects, refused_lines, row_refusal}
use Rattle.elf_model.specs.LinkInputs.{archive_again, archive_opened, group_settled, input_again, input_taken, symbol_entered, with_arguments}
use Rattle.elf_model.specs.LinkKeys.{entered, entry_named, key_index, key_used, name_used, symbol_taken, used}
use Rattle.elf_model.specs.LinkLines.{file_front, file_lines, further_front, key_front, key_lines, link_fails, link_lines, linker_defines, offer_front, reason_front, word_of_key}
use Rattle.elf_model.specs.LinkObjects.{name_noted, object_taken, signature_kept, symbol_without}
use Rattle.elf_model.specs.LinkPasses.{archive_searched, asks_for, entry_visited, index_name, member_taken, takes_member}
use Rattle.elf_model.specs.LinkSymbols.{defines_from, group_in, groups_at, groups_from, link_name, link_symbol, object_defines, object_of, object_refusal, object_symbol, section_link_name, sections_from, signature_of, link_symbol_at, symbol_role, symbols_from}

unfoldable pub on_links : Unit {0}
unfolding archive_index archive_input index_symbols input_of link_answer link_cause_word link_members_from members_as_objects refused_lines row_refusal defines_from group_in groups_at groups_from link_name link_symbol object_defines object_of object_refusal object_symbol section_link_name sections_from signature_of link_symbol_at symbol_role symbols_from archive_again archive_opened group_settled input_again input_taken symbol_entered with_arguments entered entry_named key_index key_used name_used symbol_taken used file_front file_lines further_front key_front key_lines link_fails link_lines linker_defines offer_front reason_front word_of_key name_noted object_taken signature_kept symbol_without archive_searched asks_for entry_visited index_name member_taken takes_member
on_links = tt
