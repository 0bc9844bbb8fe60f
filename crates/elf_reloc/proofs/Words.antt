-- The definitions that functions compute, unfolded for their checks.
use Rattle.elf_model.specs.Prelude.{apply_checks, base_value, change_of, entry_changes, entry_checks, entry_value, held_bytes, layout_names_cost, named_value, patch_of, place_value, plt_entry_value, symbol_value, system_value, whole}
use Rattle.elf_layout.specs.Layouts.{names_for}
use Rattle.elf_reloc.specs.Entries.{term_of, taken_place}

-- the request
unfoldable pub request : Unit {0}
unfolding apply_checks held_bytes
request = tt

-- an entry
unfoldable pub entry : Unit {0}
unfolding entry_changes change_of
entry = tt

-- an entry of a type
unfoldable pub typed : Unit {0}
unfolding change_of entry_checks term_of taken_place patch_of whole
typed = tt

-- B
unfoldable pub term : Unit {0}
unfolding term_of named_value
term = tt

unfoldable pub based : Unit {0}
unfolding base_value layout_names_cost names_for
based = tt

-- S
unfoldable pub value : Unit {0}
unfolding symbol_value layout_names_cost
value = tt

-- L
unfoldable pub linkage : Unit {0}
unfolding plt_entry_value symbol_value system_value entry_value layout_names_cost names_for
linkage = tt

-- P
unfoldable pub place : Unit {0}
unfolding taken_place place_value
place = tt
