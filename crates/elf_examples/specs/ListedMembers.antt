-- Members of archives: their headers, their names, and their listings.
use Rattle.std.specs.Prelude.{ℕ, ◌≡◌, ◌+◌, ◌*◌, ◌<◌, List, [], ◌∷◌, ◌++◌, codes, true, false, Option, None, Some}
use Rattle.elf_model.specs.Prelude.{ALL, EveryRow, HEADER, IsArchiveBudgeted, IsBudgetRefusal, SECTIONS, SYMBOLS, VERSIONS, any_refused, archive, archive_ceiling, archive_cost, archive_items, archive_of, bare_header, every_place, every_symbol, is_elf, is_name_table, library, little, member, member_header, one_symbol_table, padded_number, parsed_member_size, refusal_line, report, report_of, standard, with_bytes}
use Rattle.elf_model.specs.declared.formats.Format.TheVariants.{Columns}
use Rattle.elf_model.specs.declared.causes.Refusal.{Refusal}
use Rattle.elf_examples.specs.ListedBudgets.{spent_at}
use Rattle.elf_examples.specs.ListedBsdNames.{listed}

-- decimal numbers of the digits up to 9 and of ten of them, and the bytes next to the digits
abbrev pub DigitsAreDecimal : Type 0
DigitsAreDecimal =
    (padded_number (codes "9         ") ≡ Some 9)
    × (padded_number (codes "0123456789") ≡ Some 123456789)
    × (padded_number (codes "/         ") ≡ None)
    × (padded_number (codes ":         ") ≡ None)
    × (padded_number (codes "1:        ") ≡ None)
    × (parsed_member_size (member_header (codes "a") (codes "9876543210")) 0 ≡ Some 9876543210)

-- a header ends in its mark, both bytes
abbrev pub MarksEndHeaders : Type 0
MarksEndHeaders =
    (parsed_member_size (with_bytes 58 (0x61 ∷ []) (member_header (codes "a") (codes "1"))) 0 ≡ None)
    × (parsed_member_size (with_bytes 59 (0x0d ∷ []) (member_header (codes "a") (codes "1"))) 0 ≡ None)
    × (listed 63 (with_bytes 59 (0x0d ∷ []) (member (codes "a/") [])) ≡ codes "! 0000000000000008 member-cut\n")

-- the table of names is recognized by all 16 bytes of its name
abbrev pub NameTablesAreTold : Type 0
NameTablesAreTold =
    (is_name_table (codes "//              ") 0 ≡ true)
    × (is_name_table (codes "/               ") 0 ≡ false)
    × (is_name_table (codes "// x            ") 0 ≡ false)
    × (is_name_table (codes "//      x       ") 0 ≡ false)
    × (is_name_table (codes "//             x") 0 ≡ false)

-- a second long name, without a slash, and one that begins inside it
abbrev pub SecondLongNames : Type 0
SecondLongNames =
    listed 63 (member (codes "//") (codes "ab/\ncd\n") ++ member (codes "/0") [] ++ member (codes "/4") [] ++ member (codes "/5") [])
    ≡ codes "A     0 0000000000000044 0000000000000007 //\n" ++ codes "A     1 0000000000000088 0000000000000000 ab\n"
    ++ codes "A     2 00000000000000c4 0000000000000000 cd\n" ++ codes "A     3 0000000000000100 0000000000000000 d\n"

-- of two tables of names the first decides, though it is empty
abbrev pub FirstTablesDecide : Type 0
FirstTablesDecide =
    (listed 63 (member (codes "//") (codes "a\n") ++ member (codes "//") (codes "b\n") ++ member (codes "/0") [])
    ≡ codes "A     0 0000000000000044 0000000000000002 //\n" ++ codes "A     1 0000000000000082 0000000000000002 //\n"
    ++ codes "A     2 00000000000000c0 0000000000000000 a\n")
    × (listed 63 (member (codes "//") [] ++ member (codes "//") (codes "b\n") ++ member (codes "/0") [])
    ≡ codes "A     0 0000000000000044 0000000000000000 //\n" ++ codes "A     1 0000000000000080 0000000000000002 //\n"
    ++ codes "! 0000000000000082 name-outside\n")

-- a member is recognized as an ELF file by its first four bytes, for any fifth
abbrev pub FirstFourBytesTell : Type 0
FirstFourBytesTell =
    (is_elf (127 ∷ 69 ∷ 76 ∷ 70 ∷ []) ≡ true) × (is_elf (127 ∷ 69 ∷ 76 ∷ 70 ∷ 9 ∷ []) ≡ true)
    × (is_elf (126 ∷ 69 ∷ 76 ∷ 70 ∷ 2 ∷ []) ≡ false) × (is_elf (127 ∷ 69 ∷ 76 ∷ 71 ∷ 2 ∷ []) ≡ false)

-- an archive of one member
abbrev pub of_one : List ℕ → List ℕ
of_one content = archive_of (member (codes "a.o/") content)

-- a style is that of the members' listings: the GNU names, and tables by the program headers, of
-- which there are none
abbrev pub StylesAreTheMembers : Type 0
StylesAreTheMembers =
    (report_of Columns
    (archive_items true (of_one (with_bytes 0xbc (little 4 0x6ffffff6) one_symbol_table)) 3 (record { cap = 63; gnu = true; by_segments = false; format = Columns; choice = EveryRow; symbols = every_symbol; place = every_place; versions = false }) SECTIONS)
    ≡ codes "A     0 0000000000000044 0000000000000138 a.o\n"
    ++ codes "S     0 NULL                       0000000000000000 0000000000000000 0000000000000000 00000000 00000000 \n"
    ++ codes "S     1 GNU_HASH                   0000000000000000 0000000000000040 0000000000000030 00000002 00000001 \n"
    ++ codes "S     2 STRTAB                     0000000000000000 0000000000000070 0000000000000006 00000000 00000000 \n")
    × (report_of Columns (archive_items true (of_one one_symbol_table) 3 (record { cap = 63; gnu = false; by_segments = true; format = Columns; choice = EveryRow; symbols = every_symbol; place = every_place; versions = false }) SYMBOLS)
    ≡ codes "A     0 0000000000000044 0000000000000138 a.o\n")

-- as many headers as are allowed are a member's too
abbrev pub HeadersAreTheMembers : Type 0
HeadersAreTheMembers =
    archive (of_one one_symbol_table) 2 63 SYMBOLS
    ≡ codes "A     0 0000000000000044 0000000000000138 a.o\n" ++ codes "! 000000000000003c too-many-headers\n"

-- a fault ends the listing of its member, before the symbol after it, and the next member follows
abbrev pub FaultsEndTheirMember : Type 0
FaultsEndTheirMember =
    let faulty = with_bytes 0x40 (little 4 9) one_symbol_table in
    let all = archive_of (member (codes "a.o/") bare_header ++ member (codes "b.o/") faulty ++ member (codes "c.o/") bare_header) in
    (archive all 3 63 (HEADER + SYMBOLS)
    ≡ codes "A     0 0000000000000044 0000000000000040 a.o\n" ++ report bare_header 3 63 HEADER
    ++ codes "A     1 00000000000000c0 0000000000000138 b.o\n" ++ report faulty 3 63 HEADER ++ codes "! 0000000000000040 name-outside\n"
    ++ codes "A     2 0000000000000234 0000000000000040 c.o\n" ++ report bare_header 3 63 HEADER)
    × (any_refused all 3 (standard 63) SYMBOLS ≡ true)

-- all parts: five headers, a long name, the first four bytes of each member except the second,
-- which they are not past, and two listings
abbrev pub AllPartsCost : Type 0
AllPartsCost =
    (archive_cost library 3 (standard 63) ALL ≡ 8 + 5 * 60 + 128 + 5 * 4 + 432 + 64)
    × (archive_cost (of_one bare_header) 3 (standard 63) VERSIONS ≡ 8 + 60)

-- the upper bound of archives of this many bytes
abbrev pub CeilingsOfArchives : Type 0
CeilingsOfArchives =
    (archive_ceiling 59 1 (standard 63) ≡ 8 + (64 + (184 + 59 + 3 * 96)))
    × (archive_ceiling 60 1 (standard 63) ≡ 8 + (64 + 128 + (64 + 184)) + (64 + (184 + 60 + 3 * 96)))
    × (archive_ceiling 734 3 (standard 62) ≡ 8 + 12 * (64 + 64 + (64 + 3 * 184)) + (64 + 3 * (184 + 734 + 45 * 96)))

-- an archive of one member without data, and what is allowed of its members' lines within a budget,
-- or without one
abbrev pub Allows : Option ℕ → List ℕ → Option Refusal → Type 0
Allows budget text fault = IsArchiveBudgeted true budget (archive_of (member (codes "a/") [])) 3 (standard 63) 0 text fault

-- it costs 68 bytes: a budget of these allows only the listing, and so does none
abbrev pub BudgetsThatCarryArchives : Type 0
BudgetsThatCarryArchives =
    (text : List ℕ) (fault : Option Refusal)
    → (Allows (Some 68) text fault → text ≡ codes "A     0 0000000000000044 0000000000000000 a\n")
    × (Allows None text fault → text ≡ codes "A     0 0000000000000044 0000000000000000 a\n")

-- and every smaller budget also one that ends before the member's line, at a read in the file
abbrev pub BudgetsThatEndArchives : Type 0
BudgetsThatEndArchives =
    (budget at : ℕ) → budget < 68 → at < 68 → Allows (Some budget) (refusal_line Columns (spent_at at)) (Some (spent_at at))

-- nothing but a budget ends the listing of an archive that has no fault
abbrev pub CutsOfArchivesAreForBudget : Type 0
CutsOfArchivesAreForBudget =
    (text : List ℕ) (refusal : Refusal) → Allows (Some 40) text (Some refusal) → IsBudgetRefusal refusal × (refusal.at < 68)
