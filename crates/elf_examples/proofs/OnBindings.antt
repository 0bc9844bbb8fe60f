-- What unfolds the words of the examples of bindings, besides those of the definitions.
use Rattle.elf_model.specs.BindingLines.{line_requested}
use Rattle.elf_model.specs.BoundSymbols.{file_lacks, missing_version_requested, object_lacks, state_by}
use Rattle.elf_model.specs.Prelude.{binding_front, binding_state_name, bound_from, bound_item, counted_items, definer_walk, defines, definition_cost, definition_in, definition_lookup, definitions_among, file_before, file_of_version, gnu_symbols, hashed_symbol_count, is_reference, items_from, lacks_among, lacks_version, max_bucket, object_items, objects_items, reference_at, reference_by_index, reference_version, symbols_hashed, version_member, whole_name}

unfoldable pub on_bindings : Unit {0}
unfolding binding_front binding_state_name bound_from bound_item counted_items definer_walk defines definition_cost definition_in definition_lookup definitions_among file_before file_lacks file_of_version gnu_symbols hashed_symbol_count is_reference items_from lacks_among lacks_version line_requested max_bucket missing_version_requested object_items object_lacks objects_items reference_at reference_by_index reference_version state_by symbols_hashed version_member whole_name
on_bindings = tt
