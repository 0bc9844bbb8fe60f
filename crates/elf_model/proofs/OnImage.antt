-- What unfolds the definitions of an image, besides `OnLiterals` and `OnLoader`, so that they compute
-- on a file given byte by byte.
use Rattle.elf_model.specs.DynamicRelocations.{located_table, table_by, table_mapped, table_of_rows}
use Rattle.elf_model.specs.FixturesImage.{loaded_dynamic, items_at_base, loaded_library, loaded_relocations, loaded_segments, loaded_symbols, long_words}
use Rattle.elf_model.specs.ImageChecks.{addend_checks, dynamic_image_checks, image_checks, image_tags, kind_checks, linkage_checks, loaded_table, repeat_checks, requested_checks, segments_load_checks, image_symbol_checks}
use Rattle.elf_model.specs.Image.{and_writes, bit_address, change_by, change_of_type, direct_change, direct_changes, entry_change, entry_ranges, first_entries, holder_of, image, image_by_segments, image_changes, place_checks, read_addresses, relative_changes, relocated_segment, relocation_changes, resolved_changes, stored_at, stored_in, table_addresses, unrelocated, word_addresses, word_before, writes_of}
use Rattle.elf_model.specs.ImageCost.{image_cost, met_windows, relocation_pass, relocations_cost}
use Rattle.elf_model.specs.ImageItems.{bound_value, bytes_for, called_value, own_thread_symbol, own_thread_value, own_value, thread_value}
use Rattle.elf_model.specs.ImageMissing.{and_lacks, lacks_of, missing_by_segments, missing_entries, missing_entry_line, missing_text}
use Rattle.elf_model.specs.ImageValues.{changed_size, copied_bytes, descriptor_bytes, dynamic_symbol_checks, dynamic_type, dynamic_type_in, dynamic_types, stored_bytes}
use Rattle.elf_model.specs.RelativeRelocations.{bitmap_base}
use Rattle.elf_model.specs.Style.{tells_of_sections, without_sections_from}
use Rattle.elf_model.specs.Traits.{dynamic_entry_value, has_text_relocations}

unfoldable pub on_image : Unit {0}
unfolding located_table table_by table_mapped table_of_rows loaded_dynamic items_at_base loaded_library loaded_relocations loaded_segments loaded_symbols long_words addend_checks and_writes bit_address change_by change_of_type direct_change direct_changes dynamic_image_checks entry_change entry_ranges first_entries holder_of image image_by_segments image_changes image_checks image_tags kind_checks linkage_checks loaded_table place_checks read_addresses relative_changes relocated_segment relocation_changes repeat_checks requested_checks resolved_changes segments_load_checks stored_at stored_in image_symbol_checks table_addresses unrelocated word_addresses word_before writes_of image_cost met_windows relocation_pass relocations_cost bound_value bytes_for called_value own_thread_symbol own_thread_value own_value thread_value and_lacks lacks_of missing_by_segments missing_entries missing_entry_line missing_text changed_size copied_bytes descriptor_bytes dynamic_symbol_checks dynamic_type dynamic_type_in dynamic_types stored_bytes bitmap_base tells_of_sections without_sections_from dynamic_entry_value has_text_relocations
on_image = tt
