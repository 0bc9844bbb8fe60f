-- Worked rows of relocations that dynamic entries locate.
use Rattle.std.specs.Prelude.{◌≡◌, ℕ, ◌+◌, ◌*◌, Bool, true, false, List, [], ◌∷◌, ◌++◌, codes, length}
use Rattle.elf_model.specs.Bytes.{little}
use Rattle.elf_model.specs.Choice.{EveryRow}
use Rattle.elf_model.specs.Cost.{listing_cost}
use Rattle.elf_model.specs.Fixtures.{symbol, with_bytes, zeros}
use Rattle.elf_model.specs.FixturesApply.{relocation}
use Rattle.elf_model.specs.FixturesHash.{words}
use Rattle.elf_model.specs.FixturesSegments.{object}
use Rattle.elf_model.specs.FixturesTables.{program_header, tagged}
use Rattle.elf_model.specs.Listing.{RELOCS, report_of}
use Rattle.elf_model.specs.PlaceFilters.{every_place}
use Rattle.elf_model.specs.Report.{listing}
use Rattle.elf_model.specs.Style.{ListingStyle}
use Rattle.elf_model.specs.SymbolFilters.{every_symbol}
use Rattle.elf_model.specs.declared.formats.Format.TheVariants.{Columns}

-- a library of 880 bytes without sections: two segments to load and one of dynamic entries; three
-- symbols and their names, a table of relocations of each form but without addends, a hash table,
-- 16 words of data, and the dynamic entries
unfoldable pub located_tables : List ℕ
located_tables =
    symbol 0 0 0 0 0 ++ symbol 1 0x12 0 0 0 ++ symbol 3 0x20 0 0 0 ++ symbol 5 0x11 5 0x1210 8
    ++ (0 ∷ codes "f" ++ zeros 1 ++ codes "w" ++ zeros 1 ++ codes "d" ++ zeros 1) ++ zeros 1
    ++ little 8 0x1200 ++ little 8 5
    ++ relocation 0x1218 8 0x1200 ++ relocation 0x1220 0x25 0x100 ++ relocation 0x1224 0x300000001 4
    ++ relocation 0x1230 0x100000007 0 ++ relocation 0x1238 0x200000007 0
    ++ words (1 ∷ 4 ∷ 3 ∷ 0 ∷ 0 ∷ 1 ∷ 2 ∷ []) ++ zeros 12

unfoldable pub located_entries : List ℕ
located_entries =
    tagged 6 0xe8 ++ tagged 5 0x148 ++ tagged 10 7 ++ tagged 4 0x1d8
    ++ tagged 36 0x150 ++ tagged 35 16 ++ tagged 37 8
    ++ tagged 7 0x160 ++ tagged 8 72 ++ tagged 9 24 ++ tagged 0x6ffffff9 1
    ++ tagged 23 0x1a8 ++ tagged 2 48 ++ tagged 20 7 ++ tagged 0 0

unfoldable pub located_library : List ℕ
located_library =
    object 3
    (program_header 1 4 0 0 0x200 0x1000 ++ with_bytes 0x28 (little 8 0x190) (program_header 1 6 0x200 0x1200 0x170 0x1000)
    ++ program_header 2 6 0x280 0x1280 0xf0 8 ++ located_tables ++ zeros 128 ++ located_entries)

-- how rows are shown: with the names of GNU numbers, and by the program headers, or not
unfoldable pub located_style : (gnu by_segments : Bool) → ListingStyle
located_style gnu by_segments = record { cap = 63; gnu = gnu; by_segments = by_segments; format = Columns; choice = EveryRow; symbols = every_symbol; place = every_place; versions = false }

-- the relocations that a listing of a file has
unfoldable pub located_listed : (gnu by_segments : Bool) → List ℕ → List ℕ
located_listed gnu by_segments file = report_of Columns (listing file 8 (located_style gnu by_segments) RELOCS)

-- the rows of relative relocations, of those with addends before the last and that, and of calls
abbrev pub relative_rows : List ℕ
relative_rows =
    codes "R     2 0000000000001200 RELR       00000000 -                 \n"
    ++ codes "R     2 0000000000001210 RELR       00000000 -                 \n"

abbrev pub unnamed_rows : List ℕ
unnamed_rows =
    codes "R     2 0000000000001218 RELATIVE   00000000 +0000000000001200 \n"
    ++ codes "R     2 0000000000001220 IRELATIVE  00000000 +0000000000000100 \n"

abbrev pub named_rows : List ℕ
named_rows = codes "R     2 0000000000001224 64         00000003 +0000000000000004 d\n"

abbrev pub call_rows : List ℕ
call_rows =
    codes "R     2 0000000000001230 JUMP_SLOT  00000001 +0000000000000000 f\n"
    ++ codes "R     2 0000000000001238 JUMP_SLOT  00000002 +0000000000000000 w\n"

-- they are listed by the program headers, and in a file without sections of GNU listings; of the
-- standards' listings of such a file they are no part
abbrev pub TablesAreLocated : Type 0
TablesAreLocated =
    (length located_library ≡ 880)
    × (located_listed true true located_library ≡ relative_rows ++ unnamed_rows ++ named_rows ++ call_rows)
    × (located_listed true false located_library ≡ relative_rows ++ unnamed_rows ++ named_rows ++ call_rows)
    × (located_listed false false located_library ≡ [])

-- a table is refused at the entry of its address if its size or the size of its rows is missing, at
-- the entry of that if it is another, and at the entry of its size if that is not one of whole rows
abbrev pub LocatedTablesAreRefused : Type 0
LocatedTablesAreRefused =
    (located_listed true true (with_bytes 0x2d0 (little 8 99) located_library) ≡ codes "! 00000000000002c0 unmapped\n")
    × (located_listed true true (with_bytes 0x2e0 (little 8 99) located_library) ≡ codes "! 00000000000002c0 entry-size\n")
    × (located_listed true true (with_bytes 0x2e8 (little 8 16) located_library) ≡ codes "! 00000000000002e0 entry-size\n")
    × (located_listed true true (with_bytes 0x2d8 (little 8 15) located_library) ≡ codes "! 00000000000002d0 size-not-whole\n")

-- an address that no segment has, and symbols in a segment that ends past the end of the file
abbrev pub BytesAreRefused : Type 0
BytesAreRefused =
    (located_listed true true (with_bytes 0x338 (little 8 0x5000) located_library)
    ≡ relative_rows ++ unnamed_rows ++ named_rows ++ codes "! 0000000000000330 unmapped\n")
    × (located_listed true true (with_bytes 0x60 (little 8 0x1000) located_library) ≡ relative_rows ++ codes "! 0000000000000040 table-outside\n")

-- a bitmap that no address precedes, a symbol that the table does not have, and one without a table
abbrev pub LocatedEntriesAreRefused : Type 0
LocatedEntriesAreRefused =
    (located_listed true true (with_bytes 0x150 (little 8 5) located_library) ≡ codes "! 0000000000000150 relr\n")
    × (located_listed true true (with_bytes 0x19c (little 4 12) located_library)
    ≡ relative_rows ++ unnamed_rows ++ codes "! 0000000000000190 symbol-index\n")
    × (located_listed true true (with_bytes 0x280 (little 8 99) located_library)
    ≡ relative_rows ++ unnamed_rows ++ codes "! 0000000000000190 bad-link\n")

-- calls that the table before them has too are listed twice, a table of size 0 has no rows, and a
-- second entry of a tag does not count
abbrev pub TablesMayOverlap : Type 0
TablesMayOverlap =
    (located_listed true true (with_bytes 0x308 (little 8 120) located_library)
    ≡ relative_rows ++ unnamed_rows ++ named_rows ++ call_rows ++ call_rows)
    × (located_listed true true (with_bytes 0x308 (little 8 0) located_library) ≡ relative_rows ++ call_rows)
    × (located_listed true true (with_bytes 0x2b0 (little 8 37) located_library) ≡ codes "! 00000000000002b0 entry-size\n")

-- besides the program headers as many bytes are allowed for as five tables have
abbrev pub LocatedCost : Type 0
LocatedCost =
    (listing_cost located_library 8 (located_style true true) RELOCS ≡ 64 + 3 * 56 + 5 * (880 + 55 * (32 + 64)))
    × (listing_cost located_library 8 (located_style false false) RELOCS ≡ 64)
