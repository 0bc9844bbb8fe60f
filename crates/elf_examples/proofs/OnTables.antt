-- What unfolds the definitions of tables, besides `OnLiterals`.
use Rattle.elf_model.specs.Prelude.{byte_in_table, cause_meaning, check_front, entry_words, fault_row_text, file_status_name, headings, listing_fault_row, row_among, row_in_segments, row_in_tables, short_hex, state_after, table_from, told_line, without_zeros}

unfoldable pub on_tables : Unit {0}
unfolding byte_in_table cause_meaning check_front entry_words fault_row_text file_status_name headings listing_fault_row row_among row_in_segments row_in_tables short_hex state_after table_from told_line without_zeros
on_tables = tt
