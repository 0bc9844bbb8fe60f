-- The first symbol of a name in an object.
use Rattle.std.specs.Prelude.{ℕ, ◌≡◌, if◌then◌else◌, Bool, List, Option, None, Some, Result, Ok, Err}
use Rattle.elf_model.specs.LinkSymbols.{defines_if, is_data_definition, names_symbol, object_refusal, symbol_table_in}
use Rattle.elf_resolve.specs.Taken.{IsLinkFault}
use Rattle.elf_resolve.specs.declared.link_faults.LinkFault.{LinkFault}

-- whether the symbol at an offset is a definition, not weak and no function, if it is called so
abbrev pub definition_at : List ℕ → (table_at at : ℕ) → (name : List ℕ) → Option Bool
definition_at file table_at at name = if names_symbol file table_at at name then Some (is_data_definition file at) else None

-- THE FIRST SYMBOL of a name in an object, or what the object is refused for
abbrev pub FindsInObject : List ℕ → (headers : ℕ) → (name : List ℕ) → Result Bool LinkFault → Type 0
FindsInObject file headers name (Ok is_defined) = (object_refusal file headers ≡ None) × (is_defined ≡ defines_if file (symbol_table_in file) name)
FindsInObject file headers name (Err fault) = IsLinkFault (object_refusal file headers) fault
