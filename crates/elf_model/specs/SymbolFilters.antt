-- Which symbols of a listing are shown: all of them, or those that meet some conditions.
use Rattle.std.specs.Prelude.{not, ◌&&◌, ◌||◌, Bool, true, false, []}
use Rattle.elf_model.specs.Choice.{RowFilter, RowsOf}
use Rattle.elf_model.specs.declared.symbol_filters.SymbolFilter.{SymbolFilter}

-- no condition is set
abbrev pub every_symbol : SymbolFilter
every_symbol = record { defined = false; undefined = false; dynamic = false }

-- a condition is set
abbrev pub is_narrow : SymbolFilter → Bool
is_narrow filter = filter.defined || (filter.undefined || filter.dynamic)

-- WHICH SYMBOLS ARE SHOWN: those that meet each condition that is set, by whether a symbol is
-- defined and whether it is of an SHT_DYNSYM section
abbrev pub shows_symbol : SymbolFilter → (is_defined is_dynamic : Bool) → Bool
shows_symbol filter is_defined is_dynamic =
    (not filter.defined || is_defined) && ((not filter.undefined || not is_defined) && (not filter.dynamic || is_dynamic))

-- the same rows, or none
abbrev pub narrowed : Bool → RowFilter → RowFilter
narrowed true choice = choice
narrowed false choice = RowsOf []
