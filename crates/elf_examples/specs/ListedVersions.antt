-- Worked examples of the rows of symbol versions.
use Rattle.std.specs.Prelude.{◌≡◌, ◌*◌, ℕ, ◌+◌, ◌-◌, ◌==◌, List, [], ◌∷◌, ◌++◌, length, drop, take, replicate, filter, codes, true, false}
use Rattle.std.specs.List.{concat}
use Rattle.elf_model.specs.Prelude.{ALL, EveryRow, GNU_ALL, HEADER, ListingStyle, VERSIONS, cost, every_place, every_symbol, hostile_library, listing, listing_cost, little, one_table, report_of, standard, versioned_library, versioned_without_sections, with_bytes}
use Rattle.elf_model.specs.declared.formats.Format.TheVariants.{Columns}

-- how rows are shown here: 63 bytes of a name, and the names of GNU numbers
abbrev standard_style : ListingStyle
standard_style = record { cap = 63; gnu = true; by_segments = false; format = Columns; choice = EveryRow; symbols = every_symbol; place = every_place; versions = false }

-- the listing of some parts of a file, with eight headers allowed, and of its symbol versions alone
unfoldable pub parts_listed : ℕ → List ℕ → List ℕ
parts_listed parts file = report_of Columns (listing file 8 standard_style parts)

unfoldable pub versions_listed : List ℕ → List ℕ
versions_listed file = parts_listed VERSIONS file

-- it has this many lines, and ends in one
abbrev pub EndsInLine : List ℕ → ℕ → List ℕ → Type 0
EndsInLine file count last =
    let text = versions_listed file in
    (length (filter (λ b. b == 10) text) ≡ count) × (drop (length text - length last) text ≡ last)

-- an index that no record names: of a symbol, of definitions that are none, and of one that names
-- the file itself
abbrev pub NumbersAreRefused : Type 0
NumbersAreRefused =
    EndsInLine (with_bytes 0x1a8 (little 2 9) versioned_library) 10 (codes "! 00000000000001a8 version-index\n")
    × EndsInLine (with_bytes 0x434 (little 4 1) versioned_library) 6 (codes "! 00000000000001a6 version-index\n")
    × EndsInLine (with_bytes 0x1c0 (little 4 0) versioned_library) 7 (codes "! 00000000000001a6 version-index\n")
    × EndsInLine (with_bytes 0x1ce (little 2 1) versioned_library) 9 (codes "! 00000000000001a6 version-index\n")

-- a definition that names the file itself, with another flag too, names no version; with another
-- flag alone it does
abbrev pub FlagsNameVersions : Type 0
FlagsNameVersions =
    EndsInLine (with_bytes 0x1ce (little 2 3) versioned_library) 9 (codes "! 00000000000001a6 version-index\n")
    × EndsInLine (with_bytes 0x1ce (little 2 2) versioned_library) 11 (codes "X     4          5     3 - V2\n")

-- the strings of the needs are those that their section links to: here they begin one byte later
-- than those of the definitions
abbrev pub NeedsHaveTheirStrings : Type 0
NeedsHaveTheirStrings =
    versions_listed
    (with_bytes 0x498 (little 4 7) (with_bytes 0x4b4 (little 4 3) (with_bytes 0x4c8 (little 8 0x171 ++ little 8 0x2f) versioned_library)))
    ≡ codes "V     5 DEF      1 0001 02f895ef libf.so\n"
    ++ codes "V     5 DEF      2 0000 00000591 V1\n"
    ++ codes "V     5 DEF      3 0000 00000592 V2\n"
    ++ codes "V     6 FILE     0 0000 00000000 ibc.so.6\n"
    ++ codes "V     6 NEED     4 0000 09691a75 LIBC_2.2.5\n"
    ++ codes "X     4          0     0 - \n"
    ++ codes "X     4          1     4 - LIBC_2.2.5\n"
    ++ codes "X     4          2     1 - \n"
    ++ codes "X     4          3     2 H V1\n"
    ++ codes "X     4          4     3 - V2\n"
    ++ codes "X     4          5     3 - V2\n"

-- the versym section: fewer entries than symbols, half of one, their size, no symbol table, no such
-- section
abbrev pub NumberTablesAreRefused : Type 0
NumberTablesAreRefused =
    EndsInLine (with_bytes 0x410 (little 8 8) versioned_library) 10 (codes "! 00000000000003f0 version-cut\n")
    × EndsInLine (with_bytes 0x410 (little 8 9) versioned_library) 6 (codes "! 00000000000003f0 size-not-whole\n")
    × EndsInLine (with_bytes 0x428 (little 8 4) versioned_library) 6 (codes "! 00000000000003f0 entry-size\n")
    × EndsInLine (with_bytes 0x418 (little 4 3) versioned_library) 6 (codes "! 00000000000003f0 bad-link\n")
    × EndsInLine (with_bytes 0x3f4 (little 4 1) versioned_library) 5 (codes "V     6 NEED     4 0000 09691a75 GLIBC_2.2.5\n")

-- entries after the last symbol are not read, and a section of no bytes has no rows
abbrev pub NumberTablesEnd : Type 0
NumberTablesEnd =
    EndsInLine (with_bytes 0x390 (little 8 0x60) versioned_library) 9 (codes "X     4          3     2 H V1\n")
    × EndsInLine (with_bytes 0x410 (little 8 0) versioned_library) 5 (codes "V     6 NEED     4 0000 09691a75 GLIBC_2.2.5\n")

-- a definition: its layout version, its index, its name past the end of the table, and past the end
-- of the strings
abbrev pub DefinitionsAreRefused : Type 0
DefinitionsAreRefused =
    EndsInLine (with_bytes 0x1cc (little 2 2) versioned_library) 2 (codes "! 00000000000001cc version\n")
    × EndsInLine (with_bytes 0x1d0 (little 2 1024) versioned_library) 2 (codes "! 00000000000001cc version-index\n")
    × EndsInLine (with_bytes 0x1d0 (little 2 0x402) versioned_library) 2 (codes "! 00000000000001cc version-index\n")
    × EndsInLine (with_bytes 0x1d8 (little 4 57) versioned_library) 2 (codes "! 00000000000001cc version-cut\n")
    × EndsInLine (with_bytes 0x1fc (little 4 48) versioned_library) 3 (codes "! 00000000000001fc name-outside\n")

-- a definition that leads into itself, and past the end of the table; a table without room for one
abbrev pub DefinitionsLeadOn : Type 0
DefinitionsLeadOn =
    EndsInLine (with_bytes 0x1c0 (little 4 4) versioned_library) 2 (codes "! 00000000000001b4 version-index\n")
    × EndsInLine (with_bytes 0x1c0 (little 4 0xffffffff) versioned_library) 2 (codes "! 00000000000001b0 version-cut\n")
    × EndsInLine (with_bytes 0x450 (little 8 19) versioned_library) 1 (codes "! 0000000000000430 version-cut\n")

-- a name that two definitions share, the largest index with the hidden bit, a name in the last
-- bytes of the table
abbrev pub DefinitionsAreNamed : Type 0
DefinitionsAreNamed =
    EndsInLine (with_bytes 0x1d8 (little 4 56) versioned_library) 11 (codes "X     4          5     3 - V2\n")
    × EndsInLine (with_bytes 0x1ec (little 2 0x83ff) (with_bytes 0x1a8 (little 2 0x3ff) (with_bytes 0x1aa (little 2 0x3ff) versioned_library))) 11 (codes "X     4          5  1023 - V2\n")
    × EndsInLine (with_bytes 0x450 (little 8 80) (with_bytes 0x1f4 (little 4 16) versioned_library)) 11 (codes "X     4          5     3 - \n")

-- a needed file and its version: the record version, the index, and names past the end of the
-- strings
abbrev pub NeedsAreRefused : Type 0
NeedsAreRefused =
    EndsInLine (with_bytes 0x210 (little 2 0) versioned_library) 4 (codes "! 0000000000000210 version\n")
    × EndsInLine (with_bytes 0x226 (little 2 1024) versioned_library) 5 (codes "! 0000000000000220 version-index\n")
    × EndsInLine (with_bytes 0x228 (little 4 0xffffffff) versioned_library) 5 (codes "! 0000000000000220 name-outside\n")
    × EndsInLine (with_bytes 0x214 (little 4 48) versioned_library) 4 (codes "! 0000000000000210 name-outside\n")

-- a needed file whose versions or whose next file are past the end of the table; more records than
-- have room
abbrev pub NeedsLeadOn : Type 0
NeedsLeadOn =
    EndsInLine (with_bytes 0x218 (little 4 17) versioned_library) 5 (codes "! 0000000000000210 version-cut\n")
    × EndsInLine (with_bytes 0x21c (little 4 16) versioned_library) 6 (codes "! 0000000000000210 version-cut\n")
    × EndsInLine (with_bytes 0x22c (little 4 16) versioned_library) 6 (codes "! 0000000000000220 version-cut\n")
    × EndsInLine (with_bytes 0x218 (little 4 8) (with_bytes 0x220 (little 4 0x16) (with_bytes 0x224 (little 2 8) (with_bytes 0x226 (little 2 0) versioned_library)))) 6 (codes "! 0000000000000218 version-cut\n")

-- an index that a definition and a need have: the definition names it
abbrev pub DefinitionsComeFirst : Type 0
DefinitionsComeFirst =
    EndsInLine (with_bytes 0x226 (little 2 3) (with_bytes 0x1a2 (little 2 3) versioned_library)) 11 (codes "X     4          5     3 - V2\n")

-- a library that defines two versions of a symbol and needs one
abbrev pub version_lines : List ℕ
version_lines =
    codes "V     5 DEF      1 0001 02f895ef libf.so\n"
    ++ codes "V     5 DEF      2 0000 00000591 V1\n"
    ++ codes "V     5 DEF      3 0000 00000592 V2\n"
    ++ codes "V     6 FILE     0 0000 00000000 libc.so.6\n"
    ++ codes "V     6 NEED     4 0000 09691a75 GLIBC_2.2.5\n"
    ++ codes "X     4          0     0 - \n"
    ++ codes "X     4          1     4 - GLIBC_2.2.5\n"
    ++ codes "X     4          2     1 - \n"
    ++ codes "X     4          3     2 H V1\n"
    ++ codes "X     4          4     3 - V2\n"
    ++ codes "X     4          5     3 - V2\n"

-- a library that defines two versions of a symbol and needs one
abbrev pub VersionedLibraryLists : Type 0
VersionedLibraryLists = versions_listed versioned_library ≡ version_lines

-- its whole listing, in the GNU names: headers, symbols, dynamic entries, and then the versions
abbrev pub LibraryListsWhole : Type 0
LibraryListsWhole =
    parts_listed GNU_ALL versioned_library
    ≡ codes "H DYN     62 0000000000000000 0000000000000040 00000000000002f0 00000000     2     8     0\n"
    ++ codes "S     0 NULL                       0000000000000000 0000000000000000 0000000000000000 00000000 00000000 \n"
    ++ codes "S     1 GNU_HASH      A            00000000000000b0 00000000000000b0 0000000000000030 00000002 00000000 \n"
    ++ codes "S     2 DYNSYM        A            00000000000000e0 00000000000000e0 0000000000000090 00000003 00000001 \n"
    ++ codes "S     3 STRTAB        A            0000000000000170 0000000000000170 0000000000000030 00000000 00000000 \n"
    ++ codes "S     4 VERSYM        A            00000000000001a0 00000000000001a0 000000000000000c 00000002 00000000 \n"
    ++ codes "S     5 VERDEF        A            00000000000001b0 00000000000001b0 000000000000005c 00000003 00000003 \n"
    ++ codes "S     6 VERNEED       A            0000000000000210 0000000000000210 0000000000000020 00000003 00000001 \n"
    ++ codes "S     7 DYNAMIC       A            0000000000000230 0000000000000230 00000000000000c0 00000003 00000000 \n"
    ++ codes "P     0 LOAD     RW- 0000000000000000 0000000000000000 0000000000000000 00000000000002f0 00000000000002f0 0000000000001000\n"
    ++ codes "P     1 DYNAMIC  RW- 0000000000000230 0000000000000230 0000000000000230 00000000000000c0 00000000000000c0 0000000000000008\n"
    ++ codes "Y     2          0 0000000000000000 0000000000000000 NOTYPE  LOCAL  DEFAULT   UND   \n"
    ++ codes "Y     2          1 0000000000000000 0000000000000000 FUNC    GLOBAL DEFAULT   UND   puts\n"
    ++ codes "Y     2          2 00000000000002a0 0000000000000008 OBJECT  UNIQUE DEFAULT       7 g\n"
    ++ codes "Y     2          3 00000000000002a8 0000000000000001 FUNC    GLOBAL DEFAULT       7 f\n"
    ++ codes "Y     2          4 00000000000002a9 0000000000000001 FUNC    GLOBAL DEFAULT       7 f\n"
    ++ codes "Y     2          5 00000000000002aa 0000000000000001 IFUNC   GLOBAL DEFAULT       7 h\n"
    ++ codes "D     0 NEEDED           000000000000000c libc.so.6\n"
    ++ codes "D     1 SONAME           0000000000000022 libf.so\n"
    ++ codes "D     2 GNU_HASH         00000000000000b0 \n"
    ++ codes "D     3 STRTAB           0000000000000170 \n"
    ++ codes "D     4 SYMTAB           00000000000000e0 \n"
    ++ codes "D     5 STRSZ            0000000000000030 \n"
    ++ codes "D     6 VERSYM           00000000000001a0 \n"
    ++ codes "D     7 VERDEF           00000000000001b0 \n"
    ++ codes "D     8 VERDEFNUM        0000000000000003 \n"
    ++ codes "D     9 VERNEED          0000000000000210 \n"
    ++ codes "D    10 VERNEEDNUM       0000000000000001 \n"
    ++ codes "D    11 NULL             0000000000000000 \n"
    ++ version_lines

-- without the GNU names it has no symbol versions
abbrev pub StandardHasNone : Type 0
StandardHasNone =
    (report_of Columns (listing versioned_library 8 (standard 63) VERSIONS) ≡ [])
    × (report_of Columns (listing versioned_library 8 (standard 63) (HEADER + VERSIONS))
    ≡ report_of Columns (listing versioned_library 8 (standard 63) HEADER))
    × (cost versioned_library 8 63 VERSIONS ≡ 64)
    × (cost versioned_library 8 63 GNU_ALL ≡ cost versioned_library 8 63 ALL)

-- what leads past the end of a chain
abbrev pub HostileLists : Type 0
HostileLists =
    versions_listed hostile_library
    ≡ codes "V     5 DEF      1 0001 02f895ef libf.so\n"
    ++ codes "V     5 DEF      2 0000 00000591 V1\n"
    ++ codes "V     5 DEF      3 0000 00000592 V2\n"
    ++ codes "! 00000000000001e8 version-cut\n"

-- without section headers there are none
abbrev pub NoneWithoutSections : Type 0
NoneWithoutSections =
    (versions_listed versioned_without_sections ≡ []) × (length versioned_library ≡ 1264) × (length versioned_without_sections ≡ 752)

-- definitions that overlap, 13 bytes apart: as many are visited as have room one after another
abbrev pub overlapping : List ℕ
overlapping = take 1000 (concat (replicate 77 (1 ∷ 0 ∷ 0 ∷ 13 ∷ 0 ∷ 0 ∷ 0 ∷ 0 ∷ 0 ∷ 0 ∷ 0 ∷ 0 ∷ 8 ∷ [])))

abbrev pub OverlappingAreCut : Type 0
OverlappingAreCut =
    EndsInLine (one_table 0x6ffffffd 8 0 overlapping (0 ∷ [])) 51
    (codes "V     1 DEF      0 0d00 00000000 \n" ++ codes "! 00000000000002bd version-cut\n")

-- how many bytes are read at most: of the library, with and without sections, and if checks fail
abbrev pub parts_cost : ℕ → List ℕ → ℕ
parts_cost parts file = listing_cost file 8 standard_style parts

abbrev pub VersionsCost : Type 0
VersionsCost =
    (parts_cost GNU_ALL versioned_library ≡ 3244)
    × (parts_cost VERSIONS versioned_library ≡ 1644)
    × (parts_cost GNU_ALL versioned_without_sections ≡ 1328 + 7 * (752 + 47 * (32 + 64)))
    × (parts_cost VERSIONS versioned_without_sections ≡ 64)
    × (parts_cost VERSIONS (with_bytes 0x410 (little 8 8) versioned_library) ≡ 576 + 936)
    × (parts_cost VERSIONS (with_bytes 0x410 (little 8 16) versioned_library) ≡ 1644)
    × (parts_cost VERSIONS (with_bytes 0x418 (little 4 3) versioned_library) ≡ 576 + 528)
    × (parts_cost VERSIONS (with_bytes 0x450 (little 8 0x1000) versioned_library) ≡ 576 + 588)
