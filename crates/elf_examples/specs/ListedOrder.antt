-- Which of several faults comes first, and a listing with a table of each kind.
use Rattle.std.specs.Prelude.{◌≡◌, ℕ, ◌+◌, ◌*◌, ◌-◌, ◌^◌, ◌++◌, List, [], ◌∷◌, None, Some, codes, map, replicate, take}
use Rattle.elf_model.specs.Prelude.{ALL, DYNAMIC, NOTES, RELOCS, SYMBOLS, aligned_note, bare_header, build_note, cost, dynamic_table_checks, file_header, first_refusal, header_checks, library_without_sections, little, load_checks, needed_library, note_segment, object, one_call, one_segment, one_symbol_table, one_table, overlapping_relocations, plain_note, program_header, relocation, relocation_table_checks, report, section_header, symbol, symbol_table_checks, tagged, with_bytes, zeros}
use Rattle.elf_model.specs.declared.causes.Cause.TheVariants.{BadClass, BadData, BadLink, BadVersion, EntrySize, ExtendedNumbering, NotElf, NotStrings, SizeNotWhole, TableOutside, TooManyHeaders}
use Rattle.elf_model.specs.declared.causes.Cause.{Cause}

-- one symbol table with other bytes at 0x38: the program headers' number, the size and the number
-- of section headers, and the section of the section names
unfoldable pub with_counts : ℕ → ℕ → ℕ → ℕ → List ℕ
with_counts phnum shentsize shnum shstrndx =
    with_bytes 0x38 (little 2 phnum ++ little 2 shentsize ++ little 2 shnum ++ little 2 shstrndx) one_symbol_table

-- the first check of a file header that fails, and the first load check with this many headers
-- allowed
abbrev pub HeaderStops : List ℕ → ℕ → Cause → Type 0
HeaderStops file at cause = first_refusal (header_checks file) ≡ Some (record { at = at; cause = cause })

abbrev pub LoadStops : List ℕ → ℕ → ℕ → Cause → Type 0
LoadStops file headers at cause = first_refusal (load_checks file headers) ≡ Some (record { at = at; cause = cause })

-- all load checks pass
abbrev pub LoadPasses : List ℕ → ℕ → Type 0
LoadPasses file headers = first_refusal (load_checks file headers) ≡ None

-- a byte of the identification that is one less or one more than it must be
abbrev NeighboursStop : (place byte at : ℕ) → Cause → Type 0
NeighboursStop place byte at cause =
    HeaderStops (with_bytes place (little 1 (byte - 1)) bare_header) at cause
    × HeaderStops (with_bytes place (little 1 (byte + 1)) bare_header) at cause

-- each byte of the magic number, the class, the data encoding and the version has one value
abbrev pub IdentHasOneValue : Type 0
IdentHasOneValue =
    NeighboursStop 0 127 0 NotElf × NeighboursStop 1 69 0 NotElf × NeighboursStop 2 76 0 NotElf × NeighboursStop 3 70 0 NotElf
    × NeighboursStop 4 2 4 BadClass × NeighboursStop 5 1 5 BadData × NeighboursStop 6 1 6 BadVersion

-- of two checks of the identification that fail the earlier one decides
abbrev pub IdentFaultsInOrder : Type 0
IdentFaultsInOrder =
    HeaderStops (with_bytes 3 (little 1 0x47 ++ little 1 1 ++ little 1 2 ++ little 1 0) bare_header) 0 NotElf
    × HeaderStops (with_bytes 4 (little 1 1 ++ little 1 2 ++ little 1 0) bare_header) 4 BadClass
    × HeaderStops (with_bytes 5 (little 1 2 ++ little 1 0) bare_header) 5 BadData

-- of the load checks that fail the earliest decides: each file here fails the next check as well
abbrev pub LoadFaultsInOrder : Type 0
LoadFaultsInOrder =
    LoadStops (with_counts 0xffff 63 0 0xffff) 3 0x38 ExtendedNumbering
    × LoadStops (with_counts 4 63 0 0xffff) 3 0x3e ExtendedNumbering
    × LoadStops (with_counts 4 63 0 0) 3 0x3c ExtendedNumbering
    × LoadStops (with_counts 4 63 3 0) 2 0x3c TooManyHeaders
    × LoadStops (with_counts 4 63 3 0) 3 0x38 TooManyHeaders
    × LoadStops (with_counts 1 63 3 0) 3 0x3a EntrySize
    × LoadStops (with_bytes 0x28 (little 8 (2 ^ 64 - 1)) (with_counts 1 64 3 0)) 3 0x36 EntrySize
    × LoadStops (with_bytes 0x20 (little 8 (2 ^ 64 - 1) ++ little 8 (2 ^ 64 - 1)) (with_bytes 0x36 (little 2 56) (with_counts 1 64 3 3)))
    3 0x28 TableOutside
    × LoadStops (with_bytes 0x20 (little 8 (2 ^ 64 - 1)) (with_bytes 0x36 (little 2 56) (with_counts 1 64 3 3))) 3 0x20 TableOutside
    × LoadStops (with_bytes 0xd8 (little 8 0x1000) (with_counts 0 64 3 1)) 3 0xb8 NotStrings

-- section headers and program headers have one size each, and if there are none their size may be
-- any
abbrev pub HeaderSizesAreOne : Type 0
HeaderSizesAreOne =
    LoadStops (with_counts 0 65 3 0) 3 0x3a EntrySize
    × LoadStops (with_counts 0 0 3 0) 3 0x3a EntrySize
    × LoadStops (with_bytes 0x36 (little 2 57) (with_counts 1 64 3 0)) 3 0x36 EntrySize
    × LoadStops (with_bytes 0x36 (little 2 55) (with_counts 1 64 3 0)) 3 0x36 EntrySize
    × LoadPasses (with_bytes 0x36 (little 2 56) (with_counts 1 64 3 0)) 3
    × LoadPasses (with_bytes 0x36 (little 2 57) (with_counts 0 64 3 0)) 3
    × LoadPasses (with_bytes 0x3a (little 2 65) bare_header) 1

-- one section header, which ends with the file
abbrev one_header : List ℕ
one_header = file_header 1 0x40 1 0 ++ zeros 64

-- whether there are section headers is decided by their number, which may be 1, and not by their
-- size or their offset, which may be 0
abbrev pub SectionsAreCounted : Type 0
SectionsAreCounted =
    LoadPasses one_header 1
    × LoadStops one_header 0 0x3c TooManyHeaders
    × LoadStops (with_bytes 0x3a (little 2 65) one_header) 1 0x3a EntrySize
    × LoadStops (take 127 one_header) 1 0x28 TableOutside
    × LoadStops (with_bytes 0x3e (little 2 1) one_header) 1 0x3e BadLink
    × LoadPasses (file_header 1 0 1 0) 1
    × LoadStops (with_bytes 0x3a (little 2 65) (file_header 1 0 1 0)) 1 0x3a EntrySize
    × LoadStops (file_header 1 0 2 0) 2 0x28 TableOutside
    × LoadStops (file_header 1 0 1 1) 1 0x3e BadLink
    × LoadStops (file_header 1 0 2 1 ++ zeros 64) 2 0x40 NotStrings
    × LoadPasses (with_bytes 0x3a (little 2 64 ++ little 2 0 ++ little 2 5) bare_header) 1
    × LoadStops (file_header 1 1 0 0) 1 0x3c ExtendedNumbering

-- program headers that end with the file, and one byte past it; their offset may be 0
abbrev pub SegmentsEndInside : Type 0
SegmentsEndInside =
    LoadPasses (object 2 (zeros 112)) 2
    × LoadStops (object 2 (zeros 111)) 2 0x20 TableOutside
    × LoadPasses (object 3 (zeros 168)) 3
    × LoadStops (object 3 (zeros 167)) 3 0x20 TableOutside
    × LoadStops (with_bytes 0x20 (zeros 8) (object 2 [])) 2 0x20 TableOutside

-- of the checks of a symbol table that fail the earliest decides: each file here fails the next
-- check as well
abbrev pub SymbolFaultsInOrder : Type 0
SymbolFaultsInOrder =
    (first_refusal (symbol_table_checks (with_bytes 0xd8 (little 8 0x1001) (with_bytes 0xf0 (little 8 16) one_symbol_table)) 0xb8)
    ≡ Some (record { at = 0xb8; cause = EntrySize }))
    × (first_refusal (symbol_table_checks (with_bytes 0xd8 (little 8 0x1001) one_symbol_table) 0xb8)
    ≡ Some (record { at = 0xb8; cause = SizeNotWhole }))
    × (first_refusal (symbol_table_checks (with_bytes 0xd8 (little 8 0x1800 ++ little 4 0) one_symbol_table) 0xb8)
    ≡ Some (record { at = 0xb8; cause = TableOutside }))
    × (first_refusal (symbol_table_checks (with_bytes 0xfc (little 4 1) (with_bytes 0x118 (little 8 0x1000) one_symbol_table)) 0xb8)
    ≡ Some (record { at = 0xf8; cause = NotStrings }))

-- relocation entries and dynamic entries are checked before what they link to
abbrev pub LinkFaultsComeLater : Type 0
LinkFaultsComeLater =
    (first_refusal (relocation_table_checks (with_bytes 0x190 (little 8 16) (with_bytes 0x138 (little 8 0x1800) one_call)) 0x118)
    ≡ Some (record { at = 0x118; cause = TableOutside }))
    × (first_refusal (relocation_table_checks (with_bytes 0x180 (little 4 0) (with_bytes 0x190 (little 8 16) one_call)) 0x118)
    ≡ Some (record { at = 0x158; cause = EntrySize }))
    × (first_refusal (dynamic_table_checks (with_bytes 0xdb (little 8 0x1000 ++ little 4 0) needed_library) 0xbb)
    ≡ Some (record { at = 0xbb; cause = TableOutside }))

-- one segment of notes, and in this order sections of dynamic entries, notes, relocation entries,
-- symbols and strings
unfoldable pub every_table : List ℕ
every_table =
    with_bytes 0x36 (little 2 56 ++ little 2 1) (with_bytes 0x20 (little 8 0x40) (file_header 1 0xe8 6 0))
    ++ program_header 4 4 0x78 0x400000 16 4
    ++ plain_note (codes "ABC" ++ zeros 1) (zeros 0) 9
    ++ symbol 0 0 0 0 0 ++ symbol 1 0x10 0 0 0
    ++ relocation 4 0x10000000a 5
    ++ tagged 14 1
    ++ zeros 1 ++ codes "g" ++ zeros 6
    ++ zeros 64
    ++ section_header 6 0 0xd0 16 5 0 8 16
    ++ section_header 7 0 0x78 16 0 0 4 0
    ++ section_header 4 0 0xb8 24 4 0 8 24
    ++ section_header 2 0 0x88 48 5 1 8 24
    ++ section_header 3 0 0xe0 3 0 0 1 0

-- the kinds of tables are in their order, for any order of the sections; if there are sections, the
-- notes of the segments are neither listed nor counted
abbrev pub EveryTableIsListed : Type 0
EveryTableIsListed =
    (report every_table 6 63 ALL
    ≡ codes "H REL     62 0000000000000000 0000000000000040 00000000000000e8 00000000     1     6     0\n"
    ++ codes "S     0 NULL                       0000000000000000 0000000000000000 0000000000000000 00000000 00000000 \n"
    ++ codes "S     1 DYNAMIC                    0000000000000000 00000000000000d0 0000000000000010 00000005 00000000 \n"
    ++ codes "S     2 NOTE                       0000000000000000 0000000000000078 0000000000000010 00000000 00000000 \n"
    ++ codes "S     3 RELA                       0000000000000000 00000000000000b8 0000000000000018 00000004 00000000 \n"
    ++ codes "S     4 SYMTAB                     0000000000000000 0000000000000088 0000000000000030 00000005 00000001 \n"
    ++ codes "S     5 STRTAB                     0000000000000000 00000000000000e0 0000000000000003 00000000 00000000 \n"
    ++ codes "P     0 NOTE     R-- 0000000000000078 0000000000400000 0000000000400000 0000000000000010 0000000000000010 0000000000000004\n"
    ++ codes "Y     4          0 0000000000000000 0000000000000000 NOTYPE  LOCAL  DEFAULT   UND   \n"
    ++ codes "Y     4          1 0000000000000000 0000000000000000 NOTYPE  GLOBAL DEFAULT   UND   g\n"
    ++ codes "R     3 0000000000000004 32         00000001 +0000000000000005 g\n"
    ++ codes "N     2 00000009 00000004 00000000 ABC \n"
    ++ codes "D     0 SONAME           0000000000000001 g\n")
    × (cost every_table 6 63 ALL ≡ 888)
    × (cost every_table 127 63 SYMBOLS ≡ 64 + 6 * 64 + 2 * 88)

-- the alignment of notes is counted from their table's start and not from the file's; a segment's
-- notes are aligned and cut as a section's are
abbrev pub NotesAlignFromTheirTable : Type 0
NotesAlignFromTheirTable =
    (report (one_segment (program_header 4 0 0x7c 0 28 8) (zeros 4 ++ aligned_note)) 1 63 NOTES
    ≡ codes "N     0 00000001 00000005 00000004 ABCD 01020304\n")
    × (report (one_segment (program_header 4 0 0x7c 0 28 4) (zeros 4 ++ aligned_note)) 1 63 NOTES
    ≡ codes "N     0 00000001 00000005 00000004 ABCD 00000000\n" ++ codes "! 0000000000000094 note-cut\n")

-- section 0 counts like any other as a table of notes, of dynamic entries and of relocation entries
abbrev pub SectionZeroIsATable : Type 0
SectionZeroIsATable =
    (report (with_bytes 0x64 (section_header 7 0 0x40 36 2 0 4 0) (one_table 7 4 0 build_note [])) 3 2 NOTES
    ≡ codes "N     0 00000003 00000004 00000014 GN\\+ 000102030405060708090a0b0c0d0e0f10111213\n"
    ++ codes "N     1 00000003 00000004 00000014 GN\\+ 000102030405060708090a0b0c0d0e0f10111213\n")
    × (cost (with_bytes 0x64 (section_header 7 0 0x40 36 2 0 4 0) (one_table 7 4 0 build_note [])) 3 63 NOTES ≡ 64 + 192 + 2 * 36)
    × (report (with_bytes 0x7b (section_header 6 0 0x50 16 2 0 8 16) needed_library) 3 63 DYNAMIC
    ≡ codes "D     0 NULL             0000000000000000 \n"
    ++ codes "D     0 NEEDED           0000000000000001 libc.so.6\n"
    ++ codes "D     1 NULL             0000000000000000 \n")
    × (report (with_bytes 0x78 (section_header 4 0x40 0x60 0x18 0 1 0 24) overlapping_relocations) 3 63 RELOCS
    ≡ codes "R     0 0000000000000002 16         00000000 +000000000000ffff \n"
    ++ codes "R     2 0000000000000000 32         00000000 +0000000011223344 \n"
    ++ codes "R     2 0000000000000002 16         00000000 +000000000000ffff \n")

-- a segment's notes have its size in the file, and not its size in memory
abbrev pub SegmentNotesByFileSize : Type 0
SegmentNotesByFileSize =
    (report (with_bytes 0x68 (zeros 8) note_segment) 1 63 NOTES ≡ codes "N     0 00000001 00000004 00000004 GNU 2a000000\n")
    × (cost (with_bytes 0x68 (zeros 8) note_segment) 1 63 NOTES ≡ 140)
    × (cost (with_bytes 0x68 (little 8 0x1000) note_segment) 1 63 NOTES ≡ 140)

-- segments of any other type have no notes, and no dynamic entries
abbrev pub OtherSegmentsHaveNoRows : Type 0
OtherSegmentsHaveNoRows =
    (map (λ type. report (with_bytes 0x40 (little 4 type) note_segment) 1 63 NOTES) (0 ∷ 1 ∷ 2 ∷ 3 ∷ 5 ∷ 6 ∷ 7 ∷ 0x104 ∷ 0x6474e553 ∷ [])
    ≡ replicate 9 [])
    × (map (λ type. cost (with_bytes 0x40 (little 4 type) note_segment) 1 63 NOTES) (1 ∷ 3 ∷ 5 ∷ 0x104 ∷ 0x6474e553 ∷ []) ≡ replicate 5 120)
    × (map (λ type. report (with_bytes 0x78 (little 4 type) library_without_sections) 2 63 DYNAMIC) (0 ∷ 1 ∷ 3 ∷ 4 ∷ 0x102 ∷ 0x6474e553 ∷ [])
    ≡ replicate 6 [])
    × (map (λ type. cost (with_bytes 0x78 (little 4 type) library_without_sections) 2 63 DYNAMIC) (1 ∷ 3 ∷ 4 ∷ 0x102 ∷ 0x6474e553 ∷ [])
    ≡ replicate 5 176)
