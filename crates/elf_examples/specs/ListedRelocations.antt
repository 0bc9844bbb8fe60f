-- Listings of relocation entries.
use Rattle.std.specs.Prelude.{◌≡◌, [], ◌++◌, codes}
use Rattle.elf_model.specs.Prelude.{ALL, RELOCS, linked_to_first, little, one_call, overlapping_relocations, report, two_relocation_sections, with_bytes}

-- two relocation entries without symbols: the whole listing
abbrev pub OverlappingRelocationsList : Type 0
OverlappingRelocationsList =
    report overlapping_relocations 3 63 ALL
    ≡ codes "H REL     62 0000000000000000 0000000000000000 0000000000000078 00000000     0     3     0\n"
    ++ codes "S     0 NULL                       0000000000000000 0000000000000000 0000000000000000 00000000 00000000 \n"
    ++ codes "S     1 PROGBITS      AX           0000000000000000 0000000000000040 0000000000000008 00000000 00000000 \n"
    ++ codes "S     2 RELA          I            0000000000000000 0000000000000048 0000000000000030 00000000 00000001 \n"
    ++ codes "R     2 0000000000000000 32         00000000 +0000000011223344 \n"
    ++ codes "R     2 0000000000000002 16         00000000 +000000000000ffff \n"

-- a symbol if the section has no symbol table
abbrev pub RelocationWithoutSymbols : Type 0
RelocationWithoutSymbols =
    report (with_bytes 0x54 (little 4 0x1) overlapping_relocations) 3 63 RELOCS
    ≡ codes "! 0000000000000048 bad-link\n"

-- one relocation entry with a symbol: the whole listing
abbrev pub OneCallLists : Type 0
OneCallLists =
    report one_call 5 63 ALL
    ≡ codes "H REL     62 0000000000000000 0000000000000000 0000000000000098 00000000     0     5     0\n"
    ++ codes "S     0 NULL                       0000000000000000 0000000000000000 0000000000000000 00000000 00000000 \n"
    ++ codes "S     1 PROGBITS      AX           0000000000000000 0000000000000040 0000000000000005 00000000 00000000 \n"
    ++ codes "S     2 RELA          I            0000000000000000 0000000000000048 0000000000000018 00000003 00000001 \n"
    ++ codes "S     3 SYMTAB                     0000000000000000 0000000000000060 0000000000000030 00000004 00000001 \n"
    ++ codes "S     4 STRTAB                     0000000000000000 0000000000000090 0000000000000003 00000000 00000000 \n"
    ++ codes "Y     3          0 0000000000000000 0000000000000000 NOTYPE  LOCAL  DEFAULT   UND   \n"
    ++ codes "Y     3          1 0000000000000000 0000000000000000 NOTYPE  GLOBAL DEFAULT   UND   f\n"
    ++ codes "R     2 0000000000000001 PLT32      00000001 -0000000000000004 f\n"

-- a symbol index that is too large, a link to no symbol table, a name past its string table
abbrev pub RelocationSymbolsAreChecked : Type 0
RelocationSymbolsAreChecked =
    (report one_call 5 63 RELOCS
    ≡ codes "R     2 0000000000000001 PLT32      00000001 -0000000000000004 f\n")
    × (report (with_bytes 0x54 (little 4 0x2) one_call) 5 63 RELOCS
    ≡ codes "! 0000000000000048 symbol-index\n")
    × (report (with_bytes 0x140 (little 4 0x1) one_call) 5 63 RELOCS
    ≡ codes "! 0000000000000048 bad-link\n")
    × (report (with_bytes 0x78 (little 4 0x3) one_call) 5 63 RELOCS
    ≡ codes "! 0000000000000078 name-outside\n")

-- a symbol's name is cut to as many bytes as are requested: the call's symbol is named `abcdef`
abbrev pub RelocationNamesAreCut : Type 0
RelocationNamesAreCut =
    let file = with_bytes 0x1b8 (little 8 8) (with_bytes 0x91 (codes "abcdef") one_call) in
    (report file 5 2 RELOCS ≡ codes "R     2 0000000000000001 PLT32      00000001 -0000000000000004 ab\\+\n")
    × (report file 5 5 RELOCS ≡ codes "R     2 0000000000000001 PLT32      00000001 -0000000000000004 abcde\\+\n")
    × (report file 5 6 RELOCS ≡ codes "R     2 0000000000000001 PLT32      00000001 -0000000000000004 abcdef\n")

-- relocation types of another machine, and types without a name
abbrev pub RelocationTypesOfOtherMachines : Type 0
RelocationTypesOfOtherMachines =
    (report (with_bytes 0x12 (little 2 0xb7) one_call) 5 63 RELOCS
    ≡ codes "R     2 0000000000000001 #4         00000001 -0000000000000004 f\n")
    × (report (with_bytes 0x50 (little 4 0x3) one_call) 5 63 RELOCS
    ≡ codes "R     2 0000000000000001 #3         00000001 -0000000000000004 f\n")
    × (report (with_bytes 0x50 (little 4 0xffffffff) one_call) 5 63 RELOCS
    ≡ codes "R     2 0000000000000001 #4294967295 00000001 -0000000000000004 f\n")

-- the least and the greatest addend, and 0
abbrev pub AddendsList : Type 0
AddendsList =
    (report (with_bytes 0x58 (little 8 0x8000000000000000) one_call) 5 63 RELOCS
    ≡ codes "R     2 0000000000000001 PLT32      00000001 -8000000000000000 f\n")
    × (report (with_bytes 0x58 (little 8 0x7fffffffffffffff) one_call) 5 63 RELOCS
    ≡ codes "R     2 0000000000000001 PLT32      00000001 +7fffffffffffffff f\n")
    × (report (with_bytes 0x58 (little 8 0x0) one_call) 5 63 RELOCS
    ≡ codes "R     2 0000000000000001 PLT32      00000001 +0000000000000000 f\n")

-- the table, then the symbol table that it links to, then its string table
abbrev pub RelocationChecksInOrder : Type 0
RelocationChecksInOrder =
    (report (with_bytes 0x150 (little 8 0x10) one_call) 5 63 RELOCS
    ≡ codes "! 0000000000000118 entry-size\n")
    × (report (with_bytes 0x190 (little 8 0x10) one_call) 5 63 RELOCS
    ≡ codes "! 0000000000000158 entry-size\n")
    × (report (with_bytes 0x180 (little 4 0x0) one_call) 5 63 RELOCS
    ≡ codes "! 0000000000000158 bad-link\n")
    × (report (with_bytes 0x19c (little 4 0x1) one_call) 5 63 RELOCS
    ≡ codes "! 0000000000000198 not-strings\n")

-- section 0 counts like any other as a symbol table
abbrev pub LinkToSectionZero : Type 0
LinkToSectionZero =
    report (linked_to_first 0x30 24) 3 63 24
    ≡ codes "Y     0          0 0000000000000000 0000000000000000 NOTYPE  LOCAL  DEFAULT   UND   \n"
    ++ codes "Y     0          1 0000000000000000 0000000000000000 NOTYPE  GLOBAL DEFAULT   UND   g\n"
    ++ codes "R     1 0000000000000000 32         00000001 -8000000000000000 g\n"

-- a symbol table of size 0 is not checked, and has no symbol
abbrev pub LinkToEmptySymbols : Type 0
LinkToEmptySymbols =
    report (linked_to_first 0 5) 3 63 RELOCS
    ≡ codes "! 0000000000000070 symbol-index\n"

-- relocation entries of size 0 have no rows, and neither they nor what they link to is checked
abbrev pub EmptyRelocationsAreNotChecked : Type 0
EmptyRelocationsAreNotChecked =
    report (with_bytes 0x190 (little 8 0x5) (with_bytes 0x150 (little 8 0x5) (with_bytes 0x138 (little 8 0x0) one_call))) 5 63 RELOCS
    ≡ []

-- a table of dynamic symbols is a symbol table too
abbrev pub LinkToDynamicSymbols : Type 0
LinkToDynamicSymbols =
    report (with_bytes 0x15c (little 4 0xb) one_call) 5 63 RELOCS
    ≡ codes "R     2 0000000000000001 PLT32      00000001 -0000000000000004 f\n"

-- links to no symbol table: no section, section 0 that is none, the entries themselves, the string
-- table
abbrev pub LinksToNoSymbols : Type 0
LinksToNoSymbols =
    (report (with_bytes 0x140 (little 4 0x5) one_call) 5 63 RELOCS
    ≡ codes "! 0000000000000048 bad-link\n")
    × (report (with_bytes 0x140 (little 4 0x10003) one_call) 5 63 RELOCS
    ≡ codes "! 0000000000000048 bad-link\n")
    × (report (with_bytes 0x140 (little 4 0x0) one_call) 5 63 RELOCS
    ≡ codes "! 0000000000000048 bad-link\n")
    × (report (with_bytes 0x140 (little 4 0x2) one_call) 5 63 RELOCS
    ≡ codes "! 0000000000000048 bad-link\n")
    × (report (with_bytes 0x140 (little 4 0x4) one_call) 5 63 RELOCS
    ≡ codes "! 0000000000000048 bad-link\n")

-- an entry without a symbol has no name: it is listed no matter what its section links to, as long
-- as that passes its checks
abbrev pub EntryWithoutSymbolLists : Type 0
EntryWithoutSymbolLists =
    (report (with_bytes 0x54 (little 4 0x0) one_call) 5 63 RELOCS
    ≡ codes "R     2 0000000000000001 PLT32      00000000 -0000000000000004 \n")
    × (report (with_bytes 0x140 (little 4 0x5) (with_bytes 0x54 (little 4 0x0) one_call)) 5 63 RELOCS
    ≡ codes "R     2 0000000000000001 PLT32      00000000 -0000000000000004 \n")
    × (report (with_bytes 0x60 (little 4 0x3) (with_bytes 0x54 (little 4 0x0) one_call)) 5 63 RELOCS
    ≡ codes "R     2 0000000000000001 PLT32      00000000 -0000000000000004 \n")

-- the linked symbol table and its string table are checked before the first entry, also if no entry
-- has a symbol
abbrev pub LinkedSymbolsAreCheckedFirst : Type 0
LinkedSymbolsAreCheckedFirst =
    (report (with_bytes 0x190 (little 8 0x10) (with_bytes 0x54 (little 4 0x0) one_call)) 5 63 RELOCS
    ≡ codes "! 0000000000000158 entry-size\n")
    × (report (with_bytes 0x178 (little 8 0x31) (with_bytes 0x54 (little 4 0x0) one_call)) 5 63 RELOCS
    ≡ codes "! 0000000000000158 size-not-whole\n")
    × (report (with_bytes 0x170 (little 8 0xfffffffffffffff8) (with_bytes 0x54 (little 4 0x0) one_call)) 5 63 RELOCS
    ≡ codes "! 0000000000000158 table-outside\n")
    × (report (with_bytes 0x180 (little 4 0x5) (with_bytes 0x54 (little 4 0x0) one_call)) 5 63 RELOCS
    ≡ codes "! 0000000000000158 bad-link\n")
    × (report (with_bytes 0x180 (little 4 0x3) (with_bytes 0x54 (little 4 0x0) one_call)) 5 63 RELOCS
    ≡ codes "! 0000000000000158 not-strings\n")
    × (report (with_bytes 0x1b8 (little 8 0x149) (with_bytes 0x54 (little 4 0x0) one_call)) 5 63 RELOCS
    ≡ codes "! 0000000000000198 table-outside\n")

-- the entries of an earlier section are listed before a later section's check fails
abbrev pub EarlierRelocationsAreListed : Type 0
EarlierRelocationsAreListed =
    report (two_relocation_sections 10 16) 4 63 RELOCS
    ≡ codes "R     2 0000000000000000 32         00000000 +0000000000000001 \n"
    ++ codes "! 0000000000000138 entry-size\n"

-- relocation entries of size 0 are not checked: a link to no section, to symbols whose string table
-- is none, a table past the end
abbrev pub EmptyRelocationsHaveNoLink : Type 0
EmptyRelocationsHaveNoLink =
    (report (with_bytes 0x138 (little 8 0x0 ++ little 4 0x5) one_call) 5 63 RELOCS
    ≡ [])
    × (report (with_bytes 0x19c (little 4 0x1) (with_bytes 0x138 (little 8 0x0) one_call)) 5 63 RELOCS
    ≡ [])
    × (report (with_bytes 0x130 (little 8 0xffffffffffffffff ++ little 8 0x0) one_call) 5 63 RELOCS
    ≡ [])

-- with a symbol table of size 0, whose own link names no section, an entry without a symbol is
-- listed, and no other
abbrev pub EmptySymbolsHaveNoLink : Type 0
EmptySymbolsHaveNoLink =
    (report (with_bytes 0x7c (little 4 0x0) (linked_to_first 0 5)) 3 63 RELOCS
    ≡ codes "R     1 0000000000000000 32         00000000 -8000000000000000 \n")
    × (report (with_bytes 0x178 (little 8 0x0 ++ little 4 0x9) (with_bytes 0x54 (little 4 0x0) one_call)) 5 63 RELOCS
    ≡ codes "R     2 0000000000000001 PLT32      00000000 -0000000000000004 \n")
    × (report (with_bytes 0x178 (little 8 0x0 ++ little 4 0x9) one_call) 5 63 RELOCS
    ≡ codes "! 0000000000000048 symbol-index\n")

-- a fault of the section of the section names comes before the entries
abbrev pub RelocationsAfterLoadChecks : Type 0
RelocationsAfterLoadChecks =
    (report (with_bytes 0x3e (little 2 0x1) one_call) 5 63 RELOCS
    ≡ codes "! 00000000000000d8 not-strings\n")
    × (report (with_bytes 0x1b8 (little 8 0x149) (with_bytes 0x3e (little 2 0x4) one_call)) 5 63 RELOCS
    ≡ codes "! 0000000000000198 table-outside\n")
    × (report (with_bytes 0x3e (little 2 0x5) one_call) 5 63 RELOCS
    ≡ codes "! 000000000000003e bad-link\n")
