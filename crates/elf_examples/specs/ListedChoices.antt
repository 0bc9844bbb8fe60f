-- Worked examples of the rows of some names.
use Rattle.std.specs.Prelude.{◌≡◌, ℕ, List, [], ◌∷◌, ◌++◌, codes, map, true, false}
use Rattle.elf_model.specs.Prelude.{ListingStyle, RELOCS, RowsOf, SECTIONS, SYMBOLS, VERSIONS, archive_items, archive_of, cost, every_place, every_symbol, listing, listing_cost, little, member, most_bytes, one_call, one_symbol_table, report_of, standard, versioned_library, wanted_text, with_bytes}
use Rattle.elf_model.specs.declared.formats.Format.TheVariants.{Columns}

-- how the rows of some names are shown: with as many bytes of a name as the longest has
unfoldable pub rows_named : List (List ℕ) → ListingStyle
rows_named names = record {
  cap = most_bytes names;
  gnu = true;
  by_segments = false;
  format = Columns;
  choice = RowsOf (map (wanted_text false) names);
  symbols = every_symbol;
  place = every_place;
  versions = false;
}

-- the rows of some names in some parts of a file, with eight headers allowed
unfoldable pub named_listed : ℕ → List (List ℕ) → List ℕ → List ℕ
named_listed parts names file = report_of Columns (listing file 8 (rows_named names) parts)

-- symbols of a library: the two of one name, those of two names in the order of the table, one name
-- twice, and none
abbrev pub NamesAreListed : Type 0
NamesAreListed =
    let first = codes "Y     2          3 00000000000002a8 0000000000000001 FUNC    GLOBAL DEFAULT       7 f\n" in
    let second = codes "Y     2          4 00000000000002a9 0000000000000001 FUNC    GLOBAL DEFAULT       7 f\n" in
    let other = codes "Y     2          2 00000000000002a0 0000000000000008 OBJECT  UNIQUE DEFAULT       7 g\n" in
    (named_listed SYMBOLS (codes "f" ∷ []) versioned_library ≡ first ++ second)
    × (named_listed SYMBOLS (codes "f" ∷ codes "g" ∷ []) versioned_library ≡ other ++ first ++ second)
    × (named_listed SYMBOLS (codes "g" ∷ codes "g" ∷ []) versioned_library ≡ other)
    × (named_listed SYMBOLS (codes "e" ∷ []) versioned_library ≡ [])
    × (named_listed SYMBOLS [] versioned_library ≡ [])

-- a name of as many bytes as are shown is whole, and one of a byte more is cut: a name that is a
-- prefix of it is not it, whether more bytes are shown or not
abbrev pub FrontsAreNotListed : Type 0
FrontsAreNotListed =
    let puts = codes "Y     2          1 0000000000000000 0000000000000000 FUNC    GLOBAL DEFAULT   UND   puts\n" in
    (named_listed SYMBOLS (codes "puts" ∷ []) versioned_library ≡ puts)
    × (named_listed SYMBOLS (codes "put" ∷ []) versioned_library ≡ [])
    × (named_listed SYMBOLS (codes "put" ∷ codes "puts" ∷ []) versioned_library ≡ puts)
    × (named_listed SYMBOLS (codes "put" ∷ codes "putsx" ∷ []) versioned_library ≡ [])

-- a sign in a name is a byte of it
abbrev pub SignsAreBytes : Type 0
SignsAreBytes =
    let renamed = with_bytes 0x171 (codes "f@V1") versioned_library in
    (named_listed SYMBOLS (codes "f@V1" ∷ []) renamed
    ≡ codes "Y     2          1 0000000000000000 0000000000000000 FUNC    GLOBAL DEFAULT   UND   f@V1\n")
    × (named_listed SYMBOLS (codes "f@V1" ∷ []) versioned_library ≡ [])

-- the rows of a version: its definition, and the symbols that have it
abbrev pub VersionsAreListed : Type 0
VersionsAreListed =
    (named_listed VERSIONS (codes "V1" ∷ []) versioned_library
    ≡ codes "V     5 DEF      2 0000 00000591 V1\n" ++ codes "X     4          3     2 H V1\n")
    × (named_listed VERSIONS (codes "libc.so.6" ∷ []) versioned_library ≡ codes "V     6 FILE     0 0000 00000000 libc.so.6\n")

-- a relocation entry by the name of its symbol
abbrev pub EntriesAreListed : Type 0
EntriesAreListed =
    (named_listed RELOCS (codes "f" ∷ []) one_call
    ≡ codes "R     2 0000000000000001 PLT32      00000001 -0000000000000004 f\n")
    × (named_listed RELOCS (codes "g" ∷ []) one_call ≡ [])

-- a fault ends the rows, also if they are not shown: of a name, of a version index
abbrev pub FaultsAreListed : Type 0
FaultsAreListed =
    (named_listed SYMBOLS (codes "g" ∷ []) (with_bytes 0x128 (little 4 48) versioned_library)
    ≡ codes "Y     2          2 00000000000002a0 0000000000000008 OBJECT  UNIQUE DEFAULT       7 g\n" ++ codes "! 0000000000000128 name-outside\n")
    × (named_listed SYMBOLS (codes "e" ∷ []) (with_bytes 0x128 (little 4 48) versioned_library) ≡ codes "! 0000000000000128 name-outside\n")
    × (named_listed VERSIONS (codes "e" ∷ []) (with_bytes 0x1a8 (little 2 9) versioned_library) ≡ codes "! 00000000000001a8 version-index\n")

-- rows that end in other names are unchanged, cut as every name is
abbrev pub OtherRowsStand : Type 0
OtherRowsStand =
    named_listed SECTIONS (codes "main" ∷ []) one_symbol_table
    ≡ report_of Columns (listing one_symbol_table 8 (record { cap = 4; gnu = true; by_segments = false; format = Columns; choice = (standard 4).choice; symbols = every_symbol; place = every_place; versions = false }) SECTIONS)

-- of an archive the line of each member is listed, its name cut as every name is, followed by the
-- rows of the names
abbrev pub MembersStand : Type 0
MembersStand =
    report_of Columns
    (archive_items true (archive_of (member (codes "longer.o/") one_symbol_table ++ member (codes "b.o/") [])) 8 (rows_named (codes "main" ∷ [])) SYMBOLS)
    ≡ codes "A     0 0000000000000044 0000000000000138 long\\+\n"
    ++ codes "Y     1          1 0000000000001000 0000000000000010 FUNC    GLOBAL DEFAULT   ABS   main\n"
    ++ codes "A     1 00000000000001b8 0000000000000000 b.o\n"

-- an archive of a member that is refused
abbrev pub with_cut_member : List ℕ
with_cut_member = archive_of (member (codes "a.o/") (127 ∷ 69 ∷ 76 ∷ 70 ∷ 2 ∷ []) ++ member (codes "b.o/") one_symbol_table)

-- if the line of a member is not listed alone, it comes before a row of the names, or the line of
-- the member's refusal
abbrev pub LinesStandBeforeLines : Type 0
LinesStandBeforeLines =
    (report_of Columns
    (archive_items false (archive_of (member (codes "b.o/") [] ++ member (codes "longer.o/") one_symbol_table)) 8 (rows_named (codes "main" ∷ [])) SYMBOLS)
    ≡ codes "A     1 0000000000000080 0000000000000138 long\\+\n"
    ++ codes "Y     1          1 0000000000001000 0000000000000010 FUNC    GLOBAL DEFAULT   ABS   main\n")
    × (archive_items false (archive_of (member (codes "a.o/") one_symbol_table)) 8 (rows_named (codes "none" ∷ [])) SYMBOLS ≡ [])
    × (report_of Columns (archive_items false with_cut_member 8 (rows_named (codes "none" ∷ [])) SYMBOLS)
    ≡ codes "A     0 0000000000000044 0000000000000005 a.o\n" ++ codes "! 0000000000000005 short\n")

-- the rows of some names cost what all rows do, with as many bytes of a name
abbrev pub NamesCostAsAllRows : Type 0
NamesCostAsAllRows =
    listing_cost one_symbol_table 8 (rows_named (codes "main" ∷ [])) SYMBOLS ≡ cost one_symbol_table 8 4 SYMBOLS
