-- Worked rows of the symbols that dynamic entries locate.
use Rattle.std.specs.Prelude.{◌≡◌, ℕ, ◌+◌, ◌*◌, Bool, true, false, List, [], ◌∷◌, ◌++◌, codes}
use Rattle.elf_model.specs.Bytes.{little}
use Rattle.elf_model.specs.Choice.{EveryRow, RowFilter, RowsOf}
use Rattle.elf_model.specs.Cost.{listing_cost, style_ceiling}
use Rattle.elf_model.specs.Fixtures.{with_bytes}
use Rattle.elf_model.specs.FixturesHash.{words}
use Rattle.elf_model.specs.FixturesVersions.{versioned_library, versioned_without_sections}
use Rattle.elf_model.specs.Listing.{RELOCS, SYMBOLS, report_of}
use Rattle.elf_model.specs.Loader.{NoVersion}
use Rattle.elf_model.specs.PlaceFilters.{every_place}
use Rattle.elf_model.specs.Report.{listing}
use Rattle.elf_model.specs.Style.{ListingStyle}
use Rattle.elf_model.specs.SymbolFilters.{every_symbol}
use Rattle.elf_model.specs.declared.formats.Format.TheVariants.{Columns}
use Rattle.elf_model.specs.declared.symbol_filters.SymbolFilter.{SymbolFilter}
use Rattle.elf_examples.specs.ListedLocated.{call_rows, located_library, located_style, named_rows, relative_rows, unnamed_rows}

-- the symbols that a listing of a file has
unfoldable pub symbols_located : (gnu by_segments : Bool) → List ℕ → List ℕ
symbols_located gnu by_segments file = report_of Columns (listing file 8 (located_style gnu by_segments) SYMBOLS)

-- the first of them, and the others
abbrev pub empty_row : List ℕ
empty_row = codes "Y     2          0 0000000000000000 0000000000000000 NOTYPE  LOCAL  DEFAULT   UND   \n"

abbrev pub undefined_rows : List ℕ
undefined_rows =
    codes "Y     2          1 0000000000000000 0000000000000000 FUNC    GLOBAL DEFAULT   UND   f\n"
    ++ codes "Y     2          2 0000000000000000 0000000000000000 NOTYPE  WEAK   DEFAULT   UND   w\n"

abbrev pub defined_row : List ℕ
defined_row = codes "Y     2          3 0000000000001210 0000000000000008 OBJECT  GLOBAL DEFAULT       5 d\n"

-- they are listed by the program headers, and in a file without sections of GNU listings; of the
-- standards' listings of such a file they are no part. They come before relocations
abbrev pub SymbolsAreLocated : Type 0
SymbolsAreLocated =
    (symbols_located true true located_library ≡ empty_row ++ undefined_rows ++ defined_row)
    × (symbols_located true false located_library ≡ empty_row ++ undefined_rows ++ defined_row)
    × (symbols_located false true located_library ≡ empty_row ++ undefined_rows ++ defined_row)
    × (symbols_located false false located_library ≡ [])
    × (report_of Columns (listing located_library 8 (located_style true true) (SYMBOLS + RELOCS))
    ≡ empty_row ++ undefined_rows ++ defined_row ++ relative_rows ++ unnamed_rows ++ named_rows ++ call_rows)

-- a listing of the symbols of some names, and of those of a class: all of them are dynamic symbols
unfoldable pub symbols_selected : RowFilter → SymbolFilter → List ℕ
symbols_selected choice symbols =
    report_of Columns
    (listing located_library 8
    (record { cap = 63; gnu = true; by_segments = true; format = Columns; choice = choice; symbols = symbols; place = every_place; versions = false })
    SYMBOLS)

abbrev pub LocatedSymbolsAreSelected : Type 0
LocatedSymbolsAreSelected =
    (symbols_selected (RowsOf (record { name = codes "d"; asked = NoVersion } ∷ [])) every_symbol ≡ defined_row)
    × (symbols_selected EveryRow (record { defined = true; undefined = false; dynamic = false }) ≡ defined_row)
    × (symbols_selected EveryRow (record { defined = false; undefined = true; dynamic = true }) ≡ empty_row ++ undefined_rows)

-- they are as many as there are chains, five here, of which the last has no name in the strings;
-- without an entry of a hash table there are none
abbrev pub HashTableCounts : Type 0
HashTableCounts =
    (symbols_located true true (with_bytes 0x1dc (little 4 5) located_library)
    ≡ empty_row ++ undefined_rows ++ defined_row ++ codes "! 0000000000000148 name-outside\n")
    × (symbols_located true true (with_bytes 0x1dc (little 4 2) located_library)
    ≡ empty_row ++ codes "Y     2          1 0000000000000000 0000000000000000 FUNC    GLOBAL DEFAULT   UND   f\n")
    × (symbols_located true true (with_bytes 0x1dc (little 4 0) located_library) ≡ [])
    × (symbols_located true true (with_bytes 0x2b0 (little 8 99) located_library) ≡ [])

-- refusals: the counts of the hash table, at its entry; an entry of the symbols that is missing, at
-- that of the hash table; an address that no segment has, and a segment that ends past the end of
-- the file; and a name, at its symbol
abbrev pub LookupTablesAreRefused : Type 0
LookupTablesAreRefused =
    (symbols_located true true (with_bytes 0x1d8 (little 4 0) located_library) ≡ codes "! 00000000000002b0 hash-shape\n")
    × (symbols_located true true (with_bytes 0x1dc (little 4 8) located_library) ≡ codes "! 00000000000002b0 hash-shape\n")
    × (symbols_located true true (with_bytes 0x280 (little 8 99) located_library) ≡ codes "! 00000000000002b0 unmapped\n")
    × (symbols_located true true (with_bytes 0x288 (little 8 0x5000) located_library) ≡ codes "! 0000000000000280 unmapped\n")
    × (symbols_located true true (with_bytes 0x60 (little 8 0x1000) located_library) ≡ codes "! 0000000000000040 table-outside\n")
    × (symbols_located true true (with_bytes 0x118 (little 4 7) located_library) ≡ empty_row ++ codes "Y     2          1 0000000000000000 0000000000000000 FUNC    GLOBAL DEFAULT   UND   f\n" ++ codes "! 0000000000000118 name-outside\n")

-- those of a library with a GNU hash table, and of the same with section headers, whose program
-- headers count: its chains end with the last symbol
abbrev pub library_rows : List ℕ
library_rows =
    codes "Y     1          0 0000000000000000 0000000000000000 NOTYPE  LOCAL  DEFAULT   UND   \n"
    ++ codes "Y     1          1 0000000000000000 0000000000000000 FUNC    GLOBAL DEFAULT   UND   puts\n"
    ++ codes "Y     1          2 00000000000002a0 0000000000000008 OBJECT  UNIQUE DEFAULT       7 g\n"
    ++ codes "Y     1          3 00000000000002a8 0000000000000001 FUNC    GLOBAL DEFAULT       7 f\n"

abbrev pub last_rows : List ℕ
last_rows =
    codes "Y     1          4 00000000000002a9 0000000000000001 FUNC    GLOBAL DEFAULT       7 f\n"
    ++ codes "Y     1          5 00000000000002aa 0000000000000001 IFUNC   GLOBAL DEFAULT       7 h\n"

-- without a bucket that has a symbol, and a first symbol 1, there are those before their strings
abbrev pub GnuTablesCount : Type 0
GnuTablesCount =
    (symbols_located true true versioned_without_sections ≡ library_rows ++ last_rows)
    × (symbols_located true true versioned_library ≡ library_rows ++ last_rows)
    × (symbols_located true true (with_bytes 0xd4 (little 4 0x2b60b) (with_bytes 0xcc (little 4 3) versioned_without_sections)) ≡ library_rows)
    × (symbols_located true true (with_bytes 0xb4 (little 4 1) (with_bytes 0xc8 (words (0 ∷ 0 ∷ [])) versioned_without_sections)) ≡ library_rows ++ last_rows)
    × (symbols_located true true (with_bytes 0xb0 (little 4 0) versioned_without_sections) ≡ codes "! 0000000000000250 hash-shape\n")

-- besides the program headers as many bytes are allowed for as three tables have, and as seven with
-- relocations
abbrev pub LocatedSymbolsCost : Type 0
LocatedSymbolsCost =
    (listing_cost located_library 8 (located_style true true) SYMBOLS ≡ 64 + 3 * 56 + 3 * (880 + 55 * (32 + 64)))
    × (listing_cost located_library 8 (located_style true true) (SYMBOLS + RELOCS) ≡ 64 + 3 * 56 + 7 * (880 + 55 * (32 + 64)))
    × (listing_cost located_library 8 (located_style false false) SYMBOLS ≡ 64)
