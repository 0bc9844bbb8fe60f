-- Listings of symbols.
use Rattle.std.specs.Prelude.{◌≡◌, [], ◌++◌, codes, true, false}
use Rattle.elf_model.specs.Prelude.{ALL, SYMBOLS, hash_with_cycle, little, named_line, odd_name, one_symbol_table, report, special_places, steps_line, symbol_prefix, tables_over_headers, with_bytes}
use Rattle.elf_model.specs.declared.formats.Format.TheVariants.{Columns}
use Rattle.elf_model.specs.Names.DisplayedName.{Whole}

-- one symbol table: the whole listing
abbrev pub OneSymbolTableLists : Type 0
OneSymbolTableLists =
    report one_symbol_table 3 63 ALL
    ≡ codes "H REL     62 0000000000000000 0000000000000000 0000000000000078 00000000     0     3     0\n"
    ++ codes "S     0 NULL                       0000000000000000 0000000000000000 0000000000000000 00000000 00000000 \n"
    ++ codes "S     1 SYMTAB                     0000000000000000 0000000000000040 0000000000000030 00000002 00000001 \n"
    ++ codes "S     2 STRTAB                     0000000000000000 0000000000000070 0000000000000006 00000000 00000000 \n"
    ++ codes "Y     1          0 0000000000000000 0000000000000000 NOTYPE  LOCAL  DEFAULT   UND   \n"
    ++ codes "Y     1          1 0000000000001000 0000000000000010 FUNC    GLOBAL DEFAULT   ABS   main\n"

-- three symbol tables over the section headers: the whole listing
abbrev pub TablesOverHeadersList : Type 0
TablesOverHeadersList =
    report tables_over_headers 5 63 ALL
    ≡ codes "H REL     62 0000000000000000 0000000000000000 0000000000000040 00000000     0     5     0\n"
    ++ codes "S     0 NULL                       0000000000000000 0000000000000000 0000000000000000 00000000 00000000 \n"
    ++ codes "S     1 SYMTAB                     0000000000000000 0000000000000040 0000000000000120 00000004 00000000 \n"
    ++ codes "S     2 SYMTAB                     0000000000000000 0000000000000040 0000000000000120 00000004 00000000 \n"
    ++ codes "S     3 SYMTAB                     0000000000000000 0000000000000040 0000000000000120 00000004 00000000 \n"
    ++ codes "S     4 STRTAB                     0000000000000000 0000000000000040 0000000000000140 00000000 00000000 \n"
    ++ codes "Y     1          0 0000000000000000 0000000000000000 NOTYPE  LOCAL  DEFAULT   UND   \n"
    ++ codes "Y     1          1 0000000000000000 0000000000000000 NOTYPE  LOCAL  DEFAULT   UND   \n"
    ++ codes "Y     1          2 0000000000000000 0000000200000000 NOTYPE  LOCAL  DEFAULT   UND   \n"
    ++ codes "Y     1          3 0000000000000000 0000000000000040 NOTYPE  LOCAL  DEFAULT   UND   \n"
    ++ codes "Y     1          4 0000000000000004 0000000000000008 NOTYPE  LOCAL  DEFAULT   UND   @\\x01\n"
    ++ codes "Y     1          5 0000000200000000 0000000000000000 NOTYPE  LOCAL  DEFAULT   UND   \n"
    ++ codes "Y     1          6 0000000000000040 0000000000000120 NOTYPE  LOCAL  DEFAULT   UND   \n"
    ++ codes "Y     1          7 0000000000000008 0000000000000018 NOTYPE  LOCAL  DEFAULT   UND   \n"
    ++ codes "Y     1          8 0000000000000000 0000000000000000 FUNC    LOCAL  DEFAULT   UND   \n"
    ++ codes "Y     1          9 0000000000000120 0000000000000004 NOTYPE  LOCAL  DEFAULT   UND   \n"
    ++ codes "Y     1         10 0000000000000018 0000000300000000 NOTYPE  LOCAL  DEFAULT   UND   \n"
    ++ codes "Y     1         11 0000000000000000 0000000000000040 NOTYPE  LOCAL  DEFAULT   UND   \n"
    ++ codes "Y     2          0 0000000000000000 0000000000000000 NOTYPE  LOCAL  DEFAULT   UND   \n"
    ++ codes "Y     2          1 0000000000000000 0000000000000000 NOTYPE  LOCAL  DEFAULT   UND   \n"
    ++ codes "Y     2          2 0000000000000000 0000000200000000 NOTYPE  LOCAL  DEFAULT   UND   \n"
    ++ codes "Y     2          3 0000000000000000 0000000000000040 NOTYPE  LOCAL  DEFAULT   UND   \n"
    ++ codes "Y     2          4 0000000000000004 0000000000000008 NOTYPE  LOCAL  DEFAULT   UND   @\\x01\n"
    ++ codes "Y     2          5 0000000200000000 0000000000000000 NOTYPE  LOCAL  DEFAULT   UND   \n"
    ++ codes "Y     2          6 0000000000000040 0000000000000120 NOTYPE  LOCAL  DEFAULT   UND   \n"
    ++ codes "Y     2          7 0000000000000008 0000000000000018 NOTYPE  LOCAL  DEFAULT   UND   \n"
    ++ codes "Y     2          8 0000000000000000 0000000000000000 FUNC    LOCAL  DEFAULT   UND   \n"
    ++ codes "Y     2          9 0000000000000120 0000000000000004 NOTYPE  LOCAL  DEFAULT   UND   \n"
    ++ codes "Y     2         10 0000000000000018 0000000300000000 NOTYPE  LOCAL  DEFAULT   UND   \n"
    ++ codes "Y     2         11 0000000000000000 0000000000000040 NOTYPE  LOCAL  DEFAULT   UND   \n"
    ++ codes "Y     3          0 0000000000000000 0000000000000000 NOTYPE  LOCAL  DEFAULT   UND   \n"
    ++ codes "Y     3          1 0000000000000000 0000000000000000 NOTYPE  LOCAL  DEFAULT   UND   \n"
    ++ codes "Y     3          2 0000000000000000 0000000200000000 NOTYPE  LOCAL  DEFAULT   UND   \n"
    ++ codes "Y     3          3 0000000000000000 0000000000000040 NOTYPE  LOCAL  DEFAULT   UND   \n"
    ++ codes "Y     3          4 0000000000000004 0000000000000008 NOTYPE  LOCAL  DEFAULT   UND   @\\x01\n"
    ++ codes "Y     3          5 0000000200000000 0000000000000000 NOTYPE  LOCAL  DEFAULT   UND   \n"
    ++ codes "Y     3          6 0000000000000040 0000000000000120 NOTYPE  LOCAL  DEFAULT   UND   \n"
    ++ codes "Y     3          7 0000000000000008 0000000000000018 NOTYPE  LOCAL  DEFAULT   UND   \n"
    ++ codes "Y     3          8 0000000000000000 0000000000000000 FUNC    LOCAL  DEFAULT   UND   \n"
    ++ codes "Y     3          9 0000000000000120 0000000000000004 NOTYPE  LOCAL  DEFAULT   UND   \n"
    ++ codes "Y     3         10 0000000000000018 0000000300000000 NOTYPE  LOCAL  DEFAULT   UND   \n"
    ++ codes "Y     3         11 0000000000000000 0000000000000040 NOTYPE  LOCAL  DEFAULT   UND   \n"

-- a file with a hash table: the whole listing
abbrev pub HashFileLists : Type 0
HashFileLists =
    report hash_with_cycle 4 63 ALL
    ≡ codes "H DYN     62 0000000000000000 0000000000000000 00000000000000a8 00000000     0     4     0\n"
    ++ codes "S     0 NULL                       0000000000000000 0000000000000000 0000000000000000 00000000 00000000 \n"
    ++ codes "S     1 HASH                       0000000000000000 0000000000000040 0000000000000018 00000002 00000000 \n"
    ++ codes "S     2 DYNSYM                     0000000000000000 0000000000000058 0000000000000048 00000003 00000001 \n"
    ++ codes "S     3 STRTAB                     0000000000000000 00000000000000a0 0000000000000005 00000000 00000000 \n"
    ++ codes "Y     2          0 0000000000000000 0000000000000000 NOTYPE  LOCAL  DEFAULT   UND   \n"
    ++ codes "Y     2          1 0000000000000010 0000000000000000 FUNC    GLOBAL DEFAULT   ABS   a\n"
    ++ codes "Y     2          2 0000000000000020 0000000000000000 FUNC    GLOBAL DEFAULT   ABS   b\n"

-- a symbol table that ends past the end of the file, without wrapping
abbrev pub SymbolsOutsideTheFile : Type 0
SymbolsOutsideTheFile =
    report (with_bytes 0xd8 (little 8 0x18) (with_bytes 0xd0 (little 8 0xfffffffffffffff8) one_symbol_table)) 3 63 ALL
    ≡ codes "H REL     62 0000000000000000 0000000000000000 0000000000000078 00000000     0     3     0\n"
    ++ codes "S     0 NULL                       0000000000000000 0000000000000000 0000000000000000 00000000 00000000 \n"
    ++ codes "S     1 SYMTAB                     0000000000000000 fffffffffffffff8 0000000000000018 00000002 00000001 \n"
    ++ codes "S     2 STRTAB                     0000000000000000 0000000000000070 0000000000000006 00000000 00000000 \n"
    ++ codes "! 00000000000000b8 table-outside\n"

-- the same range in a section that no row is read from
abbrev pub RangesOfOtherSections : Type 0
RangesOfOtherSections =
    (report (with_bytes 0xbc (little 4 0x1) (with_bytes 0xd8 (little 8 0x18) (with_bytes 0xd0 (little 8 0xfffffffffffffff8) one_symbol_table))) 3 63 ALL
    ≡ codes "H REL     62 0000000000000000 0000000000000000 0000000000000078 00000000     0     3     0\n"
    ++ codes "S     0 NULL                       0000000000000000 0000000000000000 0000000000000000 00000000 00000000 \n"
    ++ codes "S     1 PROGBITS                   0000000000000000 fffffffffffffff8 0000000000000018 00000002 00000001 \n"
    ++ codes "S     2 STRTAB                     0000000000000000 0000000000000070 0000000000000006 00000000 00000000 \n")
    × (report (with_bytes 0xbc (little 4 0x8) (with_bytes 0xd8 (little 8 0x18) (with_bytes 0xd0 (little 8 0xfffffffffffffff8) one_symbol_table))) 3 63 ALL
    ≡ codes "H REL     62 0000000000000000 0000000000000000 0000000000000078 00000000     0     3     0\n"
    ++ codes "S     0 NULL                       0000000000000000 0000000000000000 0000000000000000 00000000 00000000 \n"
    ++ codes "S     1 NOBITS                     0000000000000000 fffffffffffffff8 0000000000000018 00000002 00000001 \n"
    ++ codes "S     2 STRTAB                     0000000000000000 0000000000000070 0000000000000006 00000000 00000000 \n")

-- the size of an entry, the whole size, the link, the string table
abbrev pub SymbolTableChecksInOrder : Type 0
SymbolTableChecksInOrder =
    (report (with_bytes 0xf0 (little 8 0x17) one_symbol_table) 3 63 SYMBOLS
    ≡ codes "! 00000000000000b8 entry-size\n")
    × (report (with_bytes 0xd8 (little 8 0xfffffffffffffff8) one_symbol_table) 3 63 SYMBOLS
    ≡ codes "! 00000000000000b8 size-not-whole\n")
    × (report (with_bytes 0xd8 (little 8 0xfffffffffffffff0) one_symbol_table) 3 63 SYMBOLS
    ≡ codes "! 00000000000000b8 table-outside\n")
    × (report (with_bytes 0xe0 (little 4 0x0) one_symbol_table) 3 63 SYMBOLS
    ≡ codes "! 00000000000000b8 bad-link\n")
    × (report (with_bytes 0xe0 (little 4 0x3) one_symbol_table) 3 63 SYMBOLS
    ≡ codes "! 00000000000000b8 bad-link\n")
    × (report (with_bytes 0xe0 (little 4 0x1) one_symbol_table) 3 63 SYMBOLS
    ≡ codes "! 00000000000000b8 not-strings\n")
    × (report (with_bytes 0x118 (little 8 0xc9) one_symbol_table) 3 63 SYMBOLS
    ≡ codes "! 00000000000000f8 table-outside\n")

-- sizes near 2^64: the lines before the fault are listed
abbrev pub HostileSizesKeepTheLinesBefore : Type 0
HostileSizesKeepTheLinesBefore =
    report (with_bytes 0xd8 (little 8 0xfffffffffffffff0) one_symbol_table) 3 63 ALL
    ≡ codes "H REL     62 0000000000000000 0000000000000000 0000000000000078 00000000     0     3     0\n"
    ++ codes "S     0 NULL                       0000000000000000 0000000000000000 0000000000000000 00000000 00000000 \n"
    ++ codes "S     1 SYMTAB                     0000000000000000 0000000000000040 fffffffffffffff0 00000002 00000001 \n"
    ++ codes "S     2 STRTAB                     0000000000000000 0000000000000070 0000000000000006 00000000 00000000 \n"
    ++ codes "! 00000000000000b8 table-outside\n"

-- a name past the end of its string table
abbrev pub SymbolNamesAreChecked : Type 0
SymbolNamesAreChecked =
    (report (with_bytes 0x58 (little 4 0xffffffff) one_symbol_table) 3 63 ALL
    ≡ codes "H REL     62 0000000000000000 0000000000000000 0000000000000078 00000000     0     3     0\n"
    ++ codes "S     0 NULL                       0000000000000000 0000000000000000 0000000000000000 00000000 00000000 \n"
    ++ codes "S     1 SYMTAB                     0000000000000000 0000000000000040 0000000000000030 00000002 00000001 \n"
    ++ codes "S     2 STRTAB                     0000000000000000 0000000000000070 0000000000000006 00000000 00000000 \n"
    ++ codes "Y     1          0 0000000000000000 0000000000000000 NOTYPE  LOCAL  DEFAULT   UND   \n"
    ++ codes "! 0000000000000058 name-outside\n")
    × (report (with_bytes 0x118 (little 8 0x5) one_symbol_table) 3 63 SYMBOLS
    ≡ codes "Y     1          0 0000000000000000 0000000000000000 NOTYPE  LOCAL  DEFAULT   UND   \n"
    ++ codes "! 0000000000000058 name-unended\n")
    × (report (with_bytes 0x118 (little 8 0x5) one_symbol_table) 3 3 SYMBOLS
    ≡ codes "Y     1          0 0000000000000000 0000000000000000 NOTYPE  LOCAL  DEFAULT   UND   \n"
    ++ codes "Y     1          1 0000000000001000 0000000000000010 FUNC    GLOBAL DEFAULT   ABS   mai\\+\n")

-- special section indices, and numbers that have no name
abbrev pub SpecialPlacesList : Type 0
SpecialPlacesList =
    report special_places 3 63 SYMBOLS
    ≡ codes "Y     1          0 0000000000000000 0000000000000000 NOTYPE  LOCAL  DEFAULT   UND   \n"
    ++ codes "Y     1          1 0000000000000000 0000000000000000 NOTYPE  LOCAL  DEFAULT       1 \n"
    ++ codes "Y     1          2 0000000000000000 0000000000000000 FILE    WEAK   DEFAULT   ABS   \n"
    ++ codes "Y     1          3 0000000000000000 0000000000000000 TLS     GLOBAL DEFAULT   COM   \n"
    ++ codes "Y     1          4 0000000000000000 0000000000000000      13      9 PROTECTED 65285 \n"

-- a backslash is doubled, a byte that is no printing character is escaped
abbrev pub OddBytesAreEscaped : Type 0
OddBytesAreEscaped =
    (report odd_name 3 63 SYMBOLS
    ≡ codes "Y     1          0 0000000000000000 0000000000000000 NOTYPE  LOCAL  DEFAULT   UND   a\\\\b\\x07\n")
    × (report odd_name 3 3 SYMBOLS
    ≡ codes "Y     1          0 0000000000000000 0000000000000000 NOTYPE  LOCAL  DEFAULT   UND   a\\\\b\\+\n")

-- a symbol table of size 0 has no rows, and neither it nor its link is checked
abbrev pub EmptySymbolTableIsNotChecked : Type 0
EmptySymbolTableIsNotChecked =
    report (with_bytes 0xe0 (little 4 0x9) (with_bytes 0xf0 (little 8 0x5) (with_bytes 0xd8 (little 8 0x0) one_symbol_table))) 3 63 SYMBOLS
    ≡ []

-- the lines of a lookup: the symbol with the wanted name, whole, and the number of symbols compared
abbrev pub LookupLinesList : Type 0
LookupLinesList =
    (named_line (symbol_prefix Columns false 62 hash_with_cycle 0x88 2 2) (Whole (codes "b")) ++ steps_line Columns true 2
    ≡ codes "Y     2          2 0000000000000020 0000000000000000 FUNC    GLOBAL DEFAULT   ABS   b\n"
    ++ codes "F found           2\n")
    × (steps_line Columns false 2 ≡ codes "F absent          2\n")
    × (steps_line Columns false 0 ≡ codes "F absent          0\n")
