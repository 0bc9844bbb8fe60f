-- Worked examples of the versions after the names of symbols.
use Rattle.std.specs.Prelude.{◌≡◌, ℕ, ◌+◌, ◌*◌, List, [], ◌∷◌, ◌++◌, codes, map, true, false}
use Rattle.elf_model.specs.Prelude.{EveryRow, ListingStyle, RELOCS, RowFilter, RowsOf, SYMBOLS, every_place, every_symbol, listing, listing_cost, little, report_of, section_at, style_ceiling, suffixed_relocation_rows, suffixed_symbol_rows, versioned_library, wanted_text, with_bytes}
use Rattle.elf_model.specs.declared.formats.Format.TheVariants.{Columns, Object}
use Rattle.elf_model.specs.declared.formats.Format.{Format}

-- how rows are shown: with versions, with this limit on bytes of a name, by a format and a row
-- filter
unfoldable pub with_versions : ℕ → Format → RowFilter → ListingStyle
with_versions cap format choice = record { cap = cap; gnu = true; by_segments = false; format = format; choice = choice; symbols = every_symbol; place = every_place; versions = true }

-- the symbols of a library: all, and those that some texts select
unfoldable pub symbols_listed : List ℕ → List ℕ
symbols_listed file = report_of Columns (suffixed_symbol_rows file (with_versions 63 Columns EveryRow) 2 (section_at file 2))

unfoldable pub asked_within : ℕ → List (List ℕ) → List ℕ → List ℕ
asked_within cap texts file =
    report_of Columns (suffixed_symbol_rows file (with_versions cap Columns (RowsOf (map (wanted_text true) texts))) 2 (section_at file 2))

abbrev pub asked_listed : List (List ℕ) → List ℕ → List ℕ
asked_listed = asked_within 63

-- the lines of its symbols
abbrev pub puts_line : List ℕ
puts_line = codes "Y     2          1 0000000000000000 0000000000000000 FUNC    GLOBAL DEFAULT   UND   puts@GLIBC_2.2.5\n"

abbrev pub hidden_line : List ℕ
hidden_line = codes "Y     2          3 00000000000002a8 0000000000000001 FUNC    GLOBAL DEFAULT       7 f@V1\n"

abbrev pub default_line : List ℕ
default_line = codes "Y     2          4 00000000000002a9 0000000000000001 FUNC    GLOBAL DEFAULT       7 f@@V2\n"

abbrev pub before_hidden : List ℕ
before_hidden =
    codes "Y     2          0 0000000000000000 0000000000000000 NOTYPE  LOCAL  DEFAULT   UND   \n" ++ puts_line
    ++ codes "Y     2          2 00000000000002a0 0000000000000008 OBJECT  UNIQUE DEFAULT       7 g\n"

-- an undefined symbol has no default version, a hidden one is none, and the indices 0 and 1 are of
-- no version
abbrev pub SymbolsHaveVersions : Type 0
SymbolsHaveVersions =
    symbols_listed versioned_library
    ≡ before_hidden ++ hidden_line ++ default_line ++ codes "Y     2          5 00000000000002aa 0000000000000001 IFUNC   GLOBAL DEFAULT       7 h@@V2\n"

-- a text with a version selects it, and with two signs the default one; a name alone selects every
-- version
abbrev pub TextsAskForVersions : Type 0
TextsAskForVersions =
    (asked_listed (codes "f@V1" ∷ []) versioned_library ≡ hidden_line)
    × (asked_listed (codes "f@V2" ∷ []) versioned_library ≡ default_line)
    × (asked_listed (codes "f@@V2" ∷ []) versioned_library ≡ default_line)
    × (asked_listed (codes "f@@V1" ∷ []) versioned_library ≡ [])
    × (asked_listed (codes "f" ∷ []) versioned_library ≡ hidden_line ++ default_line)
    × (asked_listed (codes "g@V1" ∷ []) versioned_library ≡ [])
    × (asked_listed (codes "puts@@GLIBC_2.2.5" ∷ []) versioned_library ≡ [])
    × (asked_listed (codes "puts@GLIBC_2.2.5" ∷ codes "f@@V2" ∷ []) versioned_library ≡ puts_line ++ default_line)

-- no text selects a name that is a prefix of another, or one that is cut; nor such versions
abbrev pub FrontsAreNotAskedFor : Type 0
FrontsAreNotAskedFor =
    (asked_listed (codes "put@GLIBC_2.2.5" ∷ []) versioned_library ≡ [])
    × (asked_listed (codes "f@V" ∷ codes "f@V12" ∷ []) versioned_library ≡ [])
    × (asked_within 4 (codes "puts@GLIBC_2.2.5" ∷ []) versioned_library ≡ [])
    × (asked_within 4 (codes "puts" ∷ []) versioned_library
    ≡ codes "Y     2          1 0000000000000000 0000000000000000 FUNC    GLOBAL DEFAULT   UND   puts@GLIB\\+\n")
    × (asked_within 3 (codes "puts" ∷ codes "put" ∷ []) versioned_library ≡ [])

-- the sign splits a text, so no text selects a name with one in it
abbrev pub SignsPartTexts : Type 0
SignsPartTexts = asked_listed (codes "f@V1" ∷ []) (with_bytes 0x171 (codes "f@V1") versioned_library) ≡ hidden_line

-- an index that no record names, at its versym entry; a symbol without an entry, at the section; a
-- name outside its table, at the record
abbrev pub RowsAreRefused : Type 0
RowsAreRefused =
    (symbols_listed (with_bytes 0x1a8 (little 2 9) versioned_library) ≡ before_hidden ++ hidden_line ++ codes "! 00000000000001a8 version-index\n")
    × (symbols_listed (with_bytes 0x410 (little 8 8) versioned_library) ≡ before_hidden ++ hidden_line ++ codes "! 00000000000003f0 version-cut\n")
    × (symbols_listed (with_bytes 0x1fc (little 4 48) versioned_library) ≡ before_hidden ++ hidden_line ++ codes "! 00000000000001fc name-outside\n")

-- before the first row: the versym section, a definition, a need
abbrev pub TablesAreRefused : Type 0
TablesAreRefused =
    (symbols_listed (with_bytes 0x410 (little 8 9) versioned_library) ≡ codes "! 00000000000003f0 size-not-whole\n")
    × (symbols_listed (with_bytes 0x428 (little 8 4) versioned_library) ≡ codes "! 00000000000003f0 entry-size\n")
    × (symbols_listed (with_bytes 0x1cc (little 2 2) versioned_library) ≡ codes "! 00000000000001cc version\n")
    × (symbols_listed (with_bytes 0x226 (little 2 1024) versioned_library) ≡ codes "! 0000000000000220 version-index\n")

-- the versym entries of another table are none of this one's
abbrev pub OtherTablesHaveTheirs : Type 0
OtherTablesHaveTheirs =
    asked_listed (codes "f@V1" ∷ []) (with_bytes 0x418 (little 4 3) versioned_library) ≡ []

-- a relocation entry of `puts`, and one of symbol 0, in the place of the dynamic entries
abbrev pub relocated_library : (symbol : ℕ) → List ℕ
relocated_library symbol =
    with_bytes 0x4b4 (little 4 4)
    (with_bytes 0x4d0 (little 8 24) (with_bytes 0x4d8 (little 4 2) (with_bytes 0x4e8 (little 8 24)
    (with_bytes 0x230 (little 8 0x2a0 ++ little 4 6 ++ little 4 symbol ++ little 8 0) versioned_library))))

-- relocation entries whose symbols have a version
abbrev pub EntriesHaveVersions : Type 0
EntriesHaveVersions =
    (report_of Columns (suffixed_relocation_rows true (relocated_library 1) (with_versions 63 Columns EveryRow) 7 (section_at (relocated_library 1) 7))
    ≡ codes "R     7 00000000000002a0 GLOB_DAT   00000001 +0000000000000000 puts@GLIBC_2.2.5\n")
    × (report_of Columns (suffixed_relocation_rows true (relocated_library 0) (with_versions 63 Columns EveryRow) 7 (section_at (relocated_library 0) 7))
    ≡ codes "R     7 00000000000002a0 GLOB_DAT   00000000 +0000000000000000 \n")

-- an object has the version and whether it is the default one; a version is cut as a name is
abbrev pub ObjectsHaveVersions : Type 0
ObjectsHaveVersions =
    (report_of Columns (suffixed_relocation_rows true (relocated_library 1) (with_versions 63 Object EveryRow) 7 (section_at (relocated_library 1) 7))
    ≡ codes "{\"line\":\"R\",\"table\":7,\"offset\":672,\"type\":\"GLOB_DAT\",\"symbol\":1,\"addend\":0,\"name\":\"puts\",\"version\":\"GLIBC_2.2.5\",\"default\":false}\n")
    × (report_of Columns (suffixed_relocation_rows true (relocated_library 1) (with_versions 4 Columns EveryRow) 7 (section_at (relocated_library 1) 7))
    ≡ codes "R     7 00000000000002a0 GLOB_DAT   00000001 +0000000000000000 puts@GLIB\\+\n")

-- the line of `g`, which has no version
abbrev pub plain_line : List ℕ
plain_line = codes "Y     2          2 00000000000002a0 0000000000000008 OBJECT  UNIQUE DEFAULT       7 g\n"

-- the library with a second versym section, of the same table, whose entries are at an offset
abbrev second_numbers : (offset : ℕ) → List ℕ
second_numbers offset =
    with_bytes 0x4b4 (little 4 0x6fffffff)
    (with_bytes 0x4c8 (little 8 offset ++ little 8 12 ++ little 4 2) (with_bytes 0x4e8 (little 8 2) versioned_library))

-- of two versym sections the first counts that is of the table
abbrev pub FirstNumbersCount : Type 0
FirstNumbersCount =
    (asked_listed (codes "f@V1" ∷ []) (second_numbers 0x230) ≡ hidden_line)
    × (asked_listed (codes "f@V1" ∷ []) (with_bytes 0x418 (little 4 3) (second_numbers 0x1a0)) ≡ hidden_line)

-- the indices 0 and 1 are of no version with the highest bit of their entry too
abbrev pub HiddenNumbersAreSmall : Type 0
HiddenNumbersAreSmall =
    (asked_listed (codes "g" ∷ []) (with_bytes 0x1a4 (little 2 0x8001) versioned_library) ≡ plain_line)
    × (asked_listed (codes "g" ∷ []) (with_bytes 0x1a4 (little 2 0x8000) versioned_library) ≡ plain_line)

-- the names of needs are in the strings of their own section
abbrev pub SuffixesHaveTheirStrings : Type 0
SuffixesHaveTheirStrings =
    asked_listed (codes "puts" ∷ codes "f@V1" ∷ [])
    (with_bytes 0x498 (little 4 7) (with_bytes 0x4b4 (little 4 3) (with_bytes 0x4c8 (little 8 0x171 ++ little 8 0x2f) versioned_library)))
    ≡ codes "Y     2          1 0000000000000000 0000000000000000 FUNC    GLOBAL DEFAULT   UND   puts@LIBC_2.2.5\n" ++ hidden_line

-- a fault of a version ends the rows though no text selects its symbol; the name of a need is
-- malformed at its record; and the fault of a symbol's name is before that of its version
abbrev pub RefusalsAreNotChosen : Type 0
RefusalsAreNotChosen =
    (asked_listed (codes "g" ∷ []) (with_bytes 0x1a8 (little 2 9) versioned_library) ≡ plain_line ++ codes "! 00000000000001a8 version-index\n")
    × (asked_listed (codes "e" ∷ []) (with_bytes 0x228 (little 4 48) versioned_library) ≡ codes "! 0000000000000220 name-outside\n")
    × (asked_listed (codes "g" ∷ []) (with_bytes 0x140 (little 4 48) (with_bytes 0x1a8 (little 2 9) versioned_library))
    ≡ plain_line ++ codes "! 0000000000000140 name-outside\n")

-- what is refused before the first row, in order: the versym section, the definitions with their
-- section, the needs with theirs
abbrev pub TablesAreRefusedInOrder : Type 0
TablesAreRefusedInOrder =
    let cut = with_bytes 0x1cc (little 2 2) versioned_library in
    (symbols_listed (with_bytes 0x410 (little 8 9) cut) ≡ codes "! 00000000000003f0 size-not-whole\n")
    × (symbols_listed (with_bytes 0x226 (little 2 1024) cut) ≡ codes "! 00000000000001cc version\n")
    × (symbols_listed (with_bytes 0x450 (little 8 0xffff) versioned_library) ≡ codes "! 0000000000000430 table-outside\n")
    × (symbols_listed (with_bytes 0x458 (little 4 0) versioned_library) ≡ codes "! 0000000000000430 bad-link\n")
    × (symbols_listed (with_bytes 0x490 (little 8 0xffff) versioned_library) ≡ codes "! 0000000000000470 table-outside\n")

-- the relocation entries of a file
abbrev pub entries_listed : List ℕ → List ℕ
entries_listed file = report_of Columns (suffixed_relocation_rows true file (with_versions 63 Columns EveryRow) 7 (section_at file 7))

-- without a symbol, or an entry, nothing is refused; with an entry the versions are, before it
abbrev pub EmptyTablesAreNotRefused : Type 0
EmptyTablesAreNotRefused =
    (symbols_listed (with_bytes 0x390 (little 8 0) (with_bytes 0x1cc (little 2 2) versioned_library)) ≡ [])
    × (entries_listed (with_bytes 0x4d0 (little 8 0) (with_bytes 0x1cc (little 2 2) (relocated_library 1))) ≡ [])
    × (entries_listed (with_bytes 0x1cc (little 2 2) (relocated_library 1)) ≡ codes "! 00000000000001cc version\n")

-- an entry of symbol 0 has no version, though the versym entry of that symbol has one
abbrev pub FirstSymbolHasNoVersion : Type 0
FirstSymbolHasNoVersion =
    entries_listed (with_bytes 0x1a0 (little 2 3) (relocated_library 0))
    ≡ codes "R     7 00000000000002a0 GLOB_DAT   00000000 +0000000000000000 \n"

-- a default version in an object, and one that is cut
abbrev pub ObjectsHaveDefaults : Type 0
ObjectsHaveDefaults =
    (report_of Columns (suffixed_symbol_rows versioned_library (with_versions 63 Object (RowsOf (map (wanted_text true) (codes "f@@V2" ∷ [])))) 2 (section_at versioned_library 2))
    ≡ codes "{\"line\":\"Y\",\"table\":2,\"index\":4,\"value\":681,\"size\":1,\"type\":\"FUNC\",\"binding\":\"GLOBAL\",\"visibility\":\"DEFAULT\",\"place\":7,\"name\":\"f\",\"version\":\"V2\",\"default\":true}\n")
    × (report_of Columns (suffixed_relocation_rows true (relocated_library 1) (with_versions 4 Object EveryRow) 7 (section_at (relocated_library 1) 7))
    ≡ codes "{\"line\":\"R\",\"table\":7,\"offset\":672,\"type\":\"GLOB_DAT\",\"symbol\":1,\"addend\":0,\"name\":\"puts\",\"version\":\"GLIB\",\"version_cut\":true,\"default\":false}\n")

-- a listing has them, and costs a versym entry and a name more for each row, and a walk over four
-- definitions and two needs; nothing more if the entries are of another table
abbrev pub SuffixesAreCounted : Type 0
SuffixesAreCounted =
    (report_of Columns (listing versioned_library 8 (with_versions 63 Columns (RowsOf (map (wanted_text true) (codes "f@V1" ∷ [])))) SYMBOLS) ≡ hidden_line)
    × (listing_cost versioned_library 8 (with_versions 63 Columns EveryRow) SYMBOLS ≡ 64 + 8 * 64 + 6 * (24 + 64) + 6 * (2 + 64) + 4 * 28 + 2 * 16)
    × (listing_cost (relocated_library 1) 8 (with_versions 63 Columns EveryRow) RELOCS ≡ 64 + 8 * 64 + (24 + 24 + 64) + (2 + 64) + 4 * 28 + 2 * 16)
    × (listing_cost (with_bytes 0x418 (little 4 3) versioned_library) 8 (with_versions 63 Columns EveryRow) SYMBOLS ≡ 64 + 8 * 64 + 6 * (24 + 64))

-- their upper bound with one header: 120 bytes have room for seven rows of 16 bytes, each with a
-- version, six definitions, seven needs; and with five tables as dynamic entries locate
abbrev pub CeilingWithVersions : Type 0
CeilingWithVersions =
    style_ceiling 120 1 (with_versions 63 Columns EveryRow)
    ≡ 64 + (64 + 56 + 64 + 120 + 7 * (32 + 64)) + (7 * (2 + 64) + 6 * 28 + 7 * 16) + 7 * (120 + 7 * (32 + 64))
