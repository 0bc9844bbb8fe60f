-- Worked rows of relocations without addends and of relative relocations.
use Rattle.std.specs.Prelude.{◌≡◌, ℕ, ◌+◌, ◌*◌, Bool, true, false, List, [], ◌++◌, codes}
use Rattle.elf_model.specs.Bytes.{little}
use Rattle.elf_model.specs.Choice.{EveryRow}
use Rattle.elf_model.specs.Cost.{listing_cost}
use Rattle.elf_model.specs.Fixtures.{file_header, section_header, zeros}
use Rattle.elf_model.specs.FixturesApply.{relocation}
use Rattle.elf_model.specs.FixturesTables.{one_table}
use Rattle.elf_model.specs.Listing.{RELOCS, report_of}
use Rattle.elf_model.specs.PlaceFilters.{every_place}
use Rattle.elf_model.specs.Report.{listing}
use Rattle.elf_model.specs.Style.{ListingStyle}
use Rattle.elf_model.specs.SymbolFilters.{every_symbol}
use Rattle.elf_model.specs.declared.formats.Format.{Format}
use Rattle.elf_model.specs.declared.formats.Format.TheVariants.{Columns, Object, Table}

-- how rows are shown: of GNU listings or of the standards', by a format
unfoldable pub style_with : (gnu : Bool) → Format → ListingStyle
style_with gnu format = record { cap = 63; gnu = gnu; by_segments = false; format = format; choice = EveryRow; symbols = every_symbol; place = every_place; versions = false }

-- the relocations that a listing of a file has
unfoldable pub relocations_listed : (gnu : Bool) → Format → List ℕ → List ℕ
relocations_listed gnu format file = report_of Columns (listing file 8 (style_with gnu format) RELOCS)

-- a file whose section 1 has these words of relative relocations, at 0x40
unfoldable pub relative_words : List ℕ → List ℕ
relative_words words = one_table 19 8 8 words []

abbrev pub words_listed : List ℕ → List ℕ
words_listed words = relocations_listed true Columns (relative_words words)

-- an address and a bitmap with the bits 0 and 2, of which the first has no row; a bitmap that no
-- address precedes; one without rows
abbrev pub WordsHaveRows : Type 0
WordsHaveRows =
    (words_listed (little 8 0x1200 ++ little 8 5)
    ≡ codes "R     1 0000000000001200 RELR       00000000 -                 \n"
    ++ codes "R     1 0000000000001210 RELR       00000000 -                 \n")
    × (words_listed (little 8 5 ++ little 8 0x1200) ≡ codes "! 0000000000000040 relr\n")
    × (words_listed (little 8 0x1202 ++ little 8 1) ≡ codes "R     1 0000000000001202 RELR       00000000 -                 \n")

-- the last bit of a bitmap is of the 63rd word, and a second bitmap is about the words after it
abbrev pub BitmapsFollow : Type 0
BitmapsFollow =
    words_listed (little 8 0x1000 ++ little 8 0x8000000000000001 ++ little 8 3)
    ≡ codes "R     1 0000000000001000 RELR       00000000 -                 \n"
    ++ codes "R     1 00000000000011f8 RELR       00000000 -                 \n"
    ++ codes "R     1 0000000000001200 RELR       00000000 -                 \n"

-- the last address that has eight bytes, an address after it, and a bit of a bitmap after it
abbrev pub AddressesEnd : Type 0
AddressesEnd =
    (words_listed (little 8 0xfffffffffffffff8) ≡ codes "R     1 fffffffffffffff8 RELR       00000000 -                 \n")
    × (words_listed (little 8 0xfffffffffffffffa) ≡ codes "! 0000000000000040 relr\n")
    × (words_listed (little 8 0xfffffffffffffff8 ++ little 8 3)
    ≡ codes "R     1 fffffffffffffff8 RELR       00000000 -                 \n" ++ codes "! 0000000000000048 relr\n")

-- sections of each of the three types: relative relocations, an entry without an addend and one with
-- it
unfoldable pub three_types : List ℕ
three_types =
    file_header 1 0x70 4 0
    ++ little 8 0x1200 ++ (little 8 0x10 ++ little 8 8) ++ relocation 0x20 8 4
    ++ zeros 64
    ++ section_header 19 0 0x40 8 0 0 8 8
    ++ section_header 9 0 0x48 16 0 0 8 16
    ++ section_header 4 0 0x58 24 0 0 8 24

-- they are listed in the order of their headers, in columns, as objects and in a table
abbrev pub TypesAreInOrder : Type 0
TypesAreInOrder =
    (relocations_listed true Columns three_types
    ≡ codes "R     1 0000000000001200 RELR       00000000 -                 \n"
    ++ codes "R     2 0000000000000010 RELATIVE   00000000 -                 \n"
    ++ codes "R     3 0000000000000020 RELATIVE   00000000 +0000000000000004 \n")
    × (relocations_listed true Object three_types
    ≡ codes "{\"line\":\"R\",\"table\":1,\"offset\":4608,\"type\":\"RELR\",\"symbol\":0,\"name\":\"\"}\n"
    ++ codes "{\"line\":\"R\",\"table\":2,\"offset\":16,\"type\":\"RELATIVE\",\"symbol\":0,\"name\":\"\"}\n"
    ++ codes "{\"line\":\"R\",\"table\":3,\"offset\":32,\"type\":\"RELATIVE\",\"symbol\":0,\"addend\":4,\"name\":\"\"}\n")

abbrev pub TablesHaveHyphens : Type 0
TablesHaveHyphens =
    relocations_listed true Table (relative_words (little 8 0x1200))
    ≡ codes "R     1      1200 RELR                        0         - \n"

-- of the standards' listings only entries with addends are part, and what GNU listings have besides
-- costs 8 bytes a word, and 16, a symbol and a name an entry
abbrev pub OthersAreGnu : Type 0
OthersAreGnu =
    (relocations_listed false Columns three_types ≡ codes "R     3 0000000000000020 RELATIVE   00000000 +0000000000000004 \n")
    × (listing_cost three_types 8 (style_with false Columns) RELOCS ≡ 64 + 4 * 64 + (24 + 24 + 64))
    × (listing_cost three_types 8 (style_with true Columns) RELOCS ≡ 64 + 4 * 64 + (24 + 24 + 64) + (16 + 24 + 64) + 8)
