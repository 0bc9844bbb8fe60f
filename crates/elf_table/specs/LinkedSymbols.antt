-- The symbol that a relocation entry refers to, among the symbols that its section links to.
use Rattle.std.specs.Prelude.{ℕ, ◌≡◌, ◌≢◌, ◌<◌, ◌≤◌, List, Option, None, Some, Result, Ok, Err}
use Rattle.elf_model.specs.Prelude.{LocatedSymbols, SYMBOL_SIZE, entry_at, first_refusal, linked_at, strings_of, symbol_checks_of}
use Rattle.elf_record.specs.Sym.{IsSym}
use Rattle.elf_table.specs.Cursors.{row_at}
use Rattle.elf_table.specs.Faults.{IsOfRead}
use Rattle.elf_table.specs.Relocations.{RefusedBy}
use Rattle.elf_table.specs.Tables.{StringTableRange, SymbolTableInBounds, TableRange, strings_in}
use Rattle.elf_model.specs.declared.causes.Cause.TheVariants.{BadLink, SymbolIndex}
use Rattle.elf_table.specs.declared.fault.Fault.{Fault}
use Rattle.elf_table.specs.declared.fault.Fault.TheVariants.{Refused}
use Rattle.elf_table.specs.declared.linked_symbol.LinkedSymbol.{LinkedSymbol}
use Rattle.elf_table.specs.declared.linked_symbol.SymbolEntry.{SymbolEntry}

-- a symbol is one of its table, which lies with its names within a source of this size
abbrev pub LinkedSymbolInBounds : ℕ → LinkedSymbol → Type 0
LinkedSymbolInBounds size symbol = SymbolTableInBounds size (symbol.table, symbol.names) × (symbol.index < symbol.table.count)

-- THE SYMBOL of an index to which an entry at an offset refers, in a section of entries with this
-- header: none for symbol 0, otherwise its place and the strings of its name, if the checks pass
abbrev pub RefersToSymbol : List ℕ → (header at symbol : ℕ) → Result (Option LinkedSymbol) Fault → Type 0
RefersToSymbol file header at symbol (Ok None) = symbol ≡ 0
RefersToSymbol file header at symbol (Ok (Some found)) =
    (symbol ≢ 0) × (first_refusal (symbol_checks_of file header at symbol) ≡ None)
    × (row_at found.table found.index ≡ entry_at file (linked_at file header) SYMBOL_SIZE symbol)
    × (strings_in file found.names ≡ strings_of file (linked_at file header))
RefersToSymbol file header at symbol (Err fault) = RefusedBy (symbol_checks_of file header at symbol) fault

-- symbols with their names, in a file
abbrev pub symbols_linked : List ℕ → Option (TableRange × StringTableRange) → Option LocatedSymbols
symbols_linked file None = None
symbols_linked file (Some symbols) =
    Some (record { place = symbols.0.at; count = symbols.0.count; strings = strings_in file symbols.1 })

-- THE SYMBOL of an index to which an entry at an offset refers, among some symbols: none for symbol
-- 0, otherwise that of the index, or the refusal if there is none
abbrev pub IsSymbolAmong : Option (TableRange × StringTableRange) → (at symbol : ℕ) → Result (Option LinkedSymbol) Fault → Type 0
IsSymbolAmong linked at symbol (Ok None) = symbol ≡ 0
IsSymbolAmong linked at symbol (Ok (Some found)) =
    (symbol ≢ 0) × (linked ≡ Some (found.table, found.names)) × (found.index ≡ symbol) × (symbol < found.table.count)
IsSymbolAmong None at symbol (Err fault) = (symbol ≢ 0) × (fault ≡ Refused (record { at = at; cause = BadLink }))
IsSymbolAmong (Some symbols) at symbol (Err fault) =
    (symbol ≢ 0) × (symbols.0.count ≤ symbol) × (fault ≡ Refused (record { at = at; cause = SymbolIndex }))

-- the symbol was read
abbrev pub SymbolRead : List ℕ → LinkedSymbol → Result SymbolEntry Fault → Type 0
SymbolRead file symbol (Ok entry) = (entry.at ≡ row_at symbol.table symbol.index) × IsSym file entry.at entry.fields
SymbolRead file symbol (Err fault) = IsOfRead fault
