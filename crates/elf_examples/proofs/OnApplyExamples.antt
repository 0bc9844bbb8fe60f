-- What unfolds the words of the examples, besides those of the definitions.
use Rattle.elf_model.specs.Prelude.{base_there, entry_item_text, entry_symbol_name, entry_text, explained, has_entry, help_text, is_overflow, items_text, lack_of, missing, missing_for_type, missing_ifunc_entry, missing_line, missing_of, missing_place, name_wanted, numbered_symbol, overflow_in, overflow_line, overflowed, place_text, place_there, psabi_relocation_types, refused_in, relocates_at, resolved_symbol_name, short_hex, symbol_place, truncated_text, type_prefix, unfit_text, value_unfit, wanted, whole_type_text, why_refused, without_zeros, x86_64_relocation_types}
use Rattle.elf_examples.specs.ExamplesApplyOrder.{longer_layout, long_named_layout}

unfoldable pub on_examples : Unit {0}
unfolding symbol_place name_wanted missing_ifunc_entry missing_for_type missing_place wanted missing_of missing has_entry relocates_at refused_in resolved_symbol_name lack_of explained type_prefix entry_text place_text items_text entry_item_text help_text missing_line base_there place_there value_unfit entry_symbol_name overflow_in overflowed whole_type_text truncated_text numbered_symbol unfit_text overflow_line is_overflow why_refused psabi_relocation_types x86_64_relocation_types short_hex without_zeros longer_layout long_named_layout
on_examples = tt
