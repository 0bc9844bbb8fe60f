-- Listings of some symbols alone.
use Rattle.std.specs.Prelude.{◌≡◌, ◌++◌, ℕ, List, [], ◌∷◌, Bool, codes, false, true}
use Rattle.elf_model.specs.Prelude.{EveryRow, ListingStyle, RELOCS, RowFilter, RowsOf, SYMBOLS, cost, listing, listing_cost, little, one_call, one_symbol_table, report_of, standard, wanted_text, with_bytes}
use Rattle.elf_model.specs.declared.formats.Format.TheVariants.{Columns}
use Rattle.elf_model.specs.declared.symbol_filters.SymbolFilter.{SymbolFilter}

-- how rows are shown if only some are: by a name, and of symbols those that meet some conditions
abbrev filtered : RowFilter → SymbolFilter → ListingStyle
filtered rows filter = record (standard 63) { choice = rows; symbols = filter }

-- some parts of a file with every name, eight headers allowed
abbrev shown_of : ℕ → SymbolFilter → List ℕ → List ℕ
shown_of parts filter file = report_of Columns (listing file 8 (filtered EveryRow filter) parts)

abbrev defined_alone : SymbolFilter
defined_alone = record { defined = true; undefined = false; dynamic = false }

abbrev undefined_alone : SymbolFilter
undefined_alone = record { defined = false; undefined = true; dynamic = false }

abbrev dynamic_alone : SymbolFilter
dynamic_alone = record { defined = false; undefined = false; dynamic = true }

abbrev undefined_row : List ℕ
undefined_row = codes "Y     1          0 0000000000000000 0000000000000000 NOTYPE  LOCAL  DEFAULT   UND   \n"

abbrev main_row : List ℕ
main_row = codes "Y     1          1 0000000000001000 0000000000000010 FUNC    GLOBAL DEFAULT   ABS   main\n"

-- one symbol is undefined, and one is not
abbrev pub DefinedSymbolsAreListed : Type 0
DefinedSymbolsAreListed =
    (shown_of SYMBOLS defined_alone one_symbol_table ≡ main_row) × (shown_of SYMBOLS undefined_alone one_symbol_table ≡ undefined_row)

-- a table is of dynamic symbols by the type of its section
abbrev pub DynamicSymbolsAreListed : Type 0
DynamicSymbolsAreListed =
    let dynamic = with_bytes 0xbc (little 4 11) one_symbol_table in
    (shown_of SYMBOLS dynamic_alone one_symbol_table ≡ [])
    × (shown_of SYMBOLS dynamic_alone dynamic ≡ undefined_row ++ main_row)
    × (shown_of SYMBOLS (record { defined = true; undefined = false; dynamic = true }) dynamic ≡ main_row)

-- a symbol is shown if it meets the conditions and has one of the names
abbrev pub NamesAreFiltered : Type 0
NamesAreFiltered =
    let main = RowsOf (wanted_text false (codes "main") ∷ []) in
    (report_of Columns (listing one_symbol_table 8 (filtered main defined_alone) SYMBOLS) ≡ main_row)
    × (report_of Columns (listing one_symbol_table 8 (filtered main undefined_alone) SYMBOLS) ≡ [])

-- a fault ends the rows, also that of a symbol that is not shown
abbrev pub FilteredFaultsAreListed : Type 0
FilteredFaultsAreListed =
    (shown_of SYMBOLS defined_alone (with_bytes 0x40 (little 4 6) one_symbol_table) ≡ codes "! 0000000000000040 name-outside\n")
    × (shown_of SYMBOLS undefined_alone (with_bytes 0x58 (little 4 6) one_symbol_table) ≡ undefined_row ++ codes "! 0000000000000058 name-outside\n")

-- other rows are shown, and what is not shown is read
abbrev pub OtherRowsAreNotFiltered : Type 0
OtherRowsAreNotFiltered =
    (shown_of RELOCS defined_alone one_call ≡ report_of Columns (listing one_call 8 (standard 63) RELOCS))
    × (listing_cost one_symbol_table 8 (filtered EveryRow dynamic_alone) SYMBOLS ≡ cost one_symbol_table 8 63 SYMBOLS)
