-- Listings of sections and segments.
use Rattle.std.specs.Prelude.{◌≡◌, ◌++◌, codes}
use Rattle.elf_model.specs.Prelude.{SECTIONS, SEGMENTS, little, named_section, one_load, one_symbol_table, report, with_bytes}

-- the section names, whole and cut
abbrev pub SectionNamesList : Type 0
SectionNamesList =
    (report named_section 3 63 SECTIONS
    ≡ codes "S     0 NULL                       0000000000000000 0000000000000000 0000000000000000 00000000 00000000 \n"
    ++ codes "S     1 SYMTAB                     0000000000000000 0000000000000040 0000000000000030 00000002 00000001 main\n"
    ++ codes "S     2 STRTAB                     0000000000000000 0000000000000070 0000000000000006 00000000 00000000 \n")
    × (report named_section 3 2 SECTIONS
    ≡ codes "S     0 NULL                       0000000000000000 0000000000000000 0000000000000000 00000000 00000000 \n"
    ++ codes "S     1 SYMTAB                     0000000000000000 0000000000000040 0000000000000030 00000002 00000001 ma\\+\n"
    ++ codes "S     2 STRTAB                     0000000000000000 0000000000000070 0000000000000006 00000000 00000000 \n")

-- a section name past the end of its string table, or without an end; without a section of the
-- section names none is read
abbrev pub SectionNamesAreChecked : Type 0
SectionNamesAreChecked =
    (report (with_bytes 0xb8 (little 4 0x6) named_section) 3 63 SECTIONS
    ≡ codes "S     0 NULL                       0000000000000000 0000000000000000 0000000000000000 00000000 00000000 \n"
    ++ codes "! 00000000000000b8 name-outside\n")
    × (report (with_bytes 0x118 (little 8 0x5) named_section) 3 63 SECTIONS
    ≡ codes "S     0 NULL                       0000000000000000 0000000000000000 0000000000000000 00000000 00000000 \n"
    ++ codes "! 00000000000000b8 name-unended\n")
    × (report (with_bytes 0xb8 (little 4 0xffffffff) one_symbol_table) 3 63 SECTIONS
    ≡ codes "S     0 NULL                       0000000000000000 0000000000000000 0000000000000000 00000000 00000000 \n"
    ++ codes "S     1 SYMTAB                     0000000000000000 0000000000000040 0000000000000030 00000002 00000001 \n"
    ++ codes "S     2 STRTAB                     0000000000000000 0000000000000070 0000000000000006 00000000 00000000 \n")

-- the letters of the section flags, and other bits; types without a name
abbrev pub SectionFlagsList : Type 0
SectionFlagsList =
    report (with_bytes 0xbc (little 4 0x6ffffff6) (with_bytes 0xc0 (little 8 0xff7) (with_bytes 0x100 (little 8 0x1008) one_symbol_table))) 3 63 SECTIONS
    ≡ codes "S     0 NULL                       0000000000000000 0000000000000000 0000000000000000 00000000 00000000 \n"
    ++ codes "S     1 6ffffff6      WAXMSILOGTC  0000000000000000 0000000000000040 0000000000000030 00000002 00000001 \n"
    ++ codes "S     2 STRTAB        ?            0000000000000000 0000000000000070 0000000000000006 00000000 00000000 \n"

-- a segment to load
abbrev pub OneSegmentLists : Type 0
OneSegmentLists =
    report one_load 1 63 SEGMENTS
    ≡ codes "P     0 LOAD     R-X 0000000000000000 0000000000400000 0000000000400000 0000000000000078 0000000000000078 0000000000001000\n"

-- a segment type without a name, and other permissions
abbrev pub OtherSegmentsList : Type 0
OtherSegmentsList =
    report (with_bytes 0x40 (little 8 0x26474e551) one_load) 1 63 SEGMENTS
    ≡ codes "P     0 6474e551 -W- 0000000000000000 0000000000400000 0000000000400000 0000000000000078 0000000000000078 0000000000001000\n"
