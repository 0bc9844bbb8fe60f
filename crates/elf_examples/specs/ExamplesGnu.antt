-- Worked examples of the names of GNU numbers: each number that has one, and its neighbors.
use Rattle.std.specs.Prelude.{◌≡◌, [], ◌∷◌, codes, map, true, false}
use Rattle.elf_model.specs.Prelude.{bindings, dynamic_tag_text, name_or_number, places, relocation_type_text, section_flags_text, section_type_text, segment_type_text, symbol_types}

-- each further section type on x86-64, and its neighbors
abbrev pub SectionTypesOfGnu : Type 0
SectionTypesOfGnu =
    map (section_type_text true 62)
    (18 ∷ 19 ∷ 20 ∷ 0x6ffffff4 ∷ 0x6ffffff5 ∷ 0x6ffffff6 ∷ 0x6ffffff7 ∷ 0x6ffffff8 ∷ 0x6ffffffc ∷ 0x6ffffffd ∷
    0x6ffffffe ∷ 0x6fffffff ∷ 0x70000000 ∷ 0x70000001 ∷ 0x70000002 ∷ [])
    ≡ codes "SYMTAB_SHNDX" ∷ codes "RELR" ∷ codes "00000014" ∷ codes "6ffffff4" ∷ codes "GNU_ATTRIBS" ∷
    codes "GNU_HASH" ∷ codes "GNU_LIBLIST" ∷ codes "6ffffff8" ∷ codes "6ffffffc" ∷ codes "VERDEF" ∷
    codes "VERNEED" ∷ codes "VERSYM" ∷ codes "70000000" ∷ codes "X86_64_UNWIND" ∷ codes "70000002" ∷ []

-- on another machine what only x86-64 has is a number
abbrev pub SectionTypesElsewhere : Type 0
SectionTypesElsewhere =
    map (section_type_text true 183)
    (0x6ffffff6 ∷ 0x70000001 ∷ [])
    ≡ codes "GNU_HASH" ∷ codes "70000001" ∷ []

-- each further segment type, and its neighbors
abbrev pub SegmentTypesOfGnu : Type 0
SegmentTypesOfGnu =
    map (segment_type_text true)
    (0x6474e54f ∷ 0x6474e550 ∷ 0x6474e551 ∷ 0x6474e552 ∷ 0x6474e553 ∷ 0x6474e554 ∷ 0x6474e555 ∷ [])
    ≡ codes "6474e54f" ∷ codes "EH_FRAME" ∷ codes "STACK" ∷ codes "RELRO" ∷ codes "PROPERTY" ∷ codes "SFRAME" ∷
    codes "6474e555" ∷ []

-- each further relocation type of x86-64, and its neighbors
abbrev pub RelocationTypesOfGnu : Type 0
RelocationTypesOfGnu =
    map (relocation_type_text true 62)
    (2 ∷ 3 ∷ 4 ∷ 8 ∷ 9 ∷ 10 ∷ 12 ∷ 13 ∷ 14 ∷ 15 ∷ 16 ∷ 17 ∷ 18 ∷ 19 ∷ 20 ∷ 21 ∷ 22 ∷ 23 ∷ 24 ∷ 25 ∷ 26 ∷ 27 ∷
    28 ∷ 29 ∷ 30 ∷ 31 ∷ 32 ∷ 33 ∷ 34 ∷ 35 ∷ 36 ∷ 37 ∷ 38 ∷ 39 ∷ 40 ∷ 41 ∷ 42 ∷ 43 ∷ 249 ∷ 250 ∷ 251 ∷ 252 ∷ [])
    ≡ codes "PC32" ∷ codes "GOT32" ∷ codes "PLT32" ∷ codes "RELATIVE" ∷ codes "GOTPCREL" ∷ codes "32" ∷
    codes "16" ∷ codes "PC16" ∷ codes "8" ∷ codes "PC8" ∷ codes "DTPMOD64" ∷ codes "DTPOFF64" ∷
    codes "TPOFF64" ∷ codes "TLSGD" ∷ codes "TLSLD" ∷ codes "DTPOFF32" ∷ codes "GOTTPOFF" ∷ codes "TPOFF32" ∷
    codes "PC64" ∷ codes "GOTOFF64" ∷ codes "GOTPC32" ∷ codes "GOT64" ∷ codes "GOTPCREL64" ∷ codes "GOTPC64" ∷
    codes "GOTPLT64" ∷ codes "PLTOFF64" ∷ codes "SIZE32" ∷ codes "SIZE64" ∷ codes "GOTPC_TLSD" ∷
    codes "TLSD_CALL" ∷ codes "TLSDESC" ∷ codes "IRELATIVE" ∷ codes "RELATIVE64" ∷ codes "PC32_BND" ∷
    codes "PLT32_BND" ∷ codes "GOTPCRELX" ∷ codes "REX_GOTPCX" ∷ codes "#43" ∷ codes "#249" ∷
    codes "VTINHERIT" ∷ codes "VTENTRY" ∷ codes "#252" ∷ []

-- another machine has no names
abbrev pub RelocationTypesElsewhere : Type 0
RelocationTypesElsewhere =
    map (relocation_type_text true 183)
    (42 ∷ 9 ∷ 250 ∷ [])
    ≡ codes "#42" ∷ codes "#9" ∷ codes "#250" ∷ []

-- each further tag, and its neighbors: the first half
abbrev pub DynamicTagsOfGnu : Type 0
DynamicTagsOfGnu =
    map (dynamic_tag_text true)
    (31 ∷ 32 ∷ 33 ∷ 34 ∷ 35 ∷ 36 ∷ 37 ∷ 38 ∷ 0x6ffffdf3 ∷ 0x6ffffdf4 ∷ 0x6ffffdf5 ∷ 0x6ffffdf6 ∷ 0x6ffffdf7 ∷
    0x6ffffdf8 ∷ 0x6ffffdf9 ∷ 0x6ffffdfa ∷ 0x6ffffdfb ∷ 0x6ffffdfc ∷ 0x6ffffdfd ∷ 0x6ffffdfe ∷ 0x6ffffdff ∷
    0x6ffffe00 ∷ 0x6ffffef4 ∷ 0x6ffffef5 ∷ 0x6ffffef6 ∷ 0x6ffffef7 ∷ [])
    ≡ codes "000000000000001f" ∷ codes "PREINIT_ARRAY" ∷ codes "PREINIT_ARRAYSZ" ∷ codes "SYMTAB_SHNDX" ∷
    codes "RELRSZ" ∷ codes "RELR" ∷ codes "RELRENT" ∷ codes "0000000000000026" ∷ codes "000000006ffffdf3" ∷
    codes "GNU_FLAGS_1" ∷ codes "GNU_PRELINKED" ∷ codes "GNU_CONFLICTSZ" ∷ codes "GNU_LIBLISTSZ" ∷
    codes "CHECKSUM" ∷ codes "PLTPADSZ" ∷ codes "MOVEENT" ∷ codes "MOVESZ" ∷ codes "FEATURE" ∷
    codes "POSFLAG_1" ∷ codes "SYMINSZ" ∷ codes "SYMINENT" ∷ codes "000000006ffffe00" ∷
    codes "000000006ffffef4" ∷ codes "GNU_HASH" ∷ codes "TLSDESC_PLT" ∷ codes "TLSDESC_GOT" ∷ []

-- the second half
abbrev pub MoreDynamicTagsOfGnu : Type 0
MoreDynamicTagsOfGnu =
    map (dynamic_tag_text true)
    (0x6ffffef8 ∷ 0x6ffffef9 ∷ 0x6ffffefa ∷ 0x6ffffefb ∷ 0x6ffffefc ∷ 0x6ffffefd ∷ 0x6ffffefe ∷ 0x6ffffeff ∷
    0x6fffff00 ∷ 0x6fffffef ∷ 0x6ffffff0 ∷ 0x6ffffff1 ∷ 0x6ffffff8 ∷ 0x6ffffff9 ∷ 0x6ffffffa ∷ 0x6ffffffb ∷
    0x6ffffffc ∷ 0x6ffffffd ∷ 0x6ffffffe ∷ 0x6fffffff ∷ 0x70000000 ∷ 0x7ffffffc ∷ 0x7ffffffd ∷ 0x7ffffffe ∷
    0x7fffffff ∷ 0x80000000 ∷ [])
    ≡ codes "GNU_CONFLICT" ∷ codes "GNU_LIBLIST" ∷ codes "CONFIG" ∷ codes "DEPAUDIT" ∷ codes "AUDIT" ∷
    codes "PLTPAD" ∷ codes "MOVETAB" ∷ codes "SYMINFO" ∷ codes "000000006fffff00" ∷ codes "000000006fffffef" ∷
    codes "VERSYM" ∷ codes "000000006ffffff1" ∷ codes "000000006ffffff8" ∷ codes "RELACOUNT" ∷
    codes "RELCOUNT" ∷ codes "FLAGS_1" ∷ codes "VERDEF" ∷ codes "VERDEFNUM" ∷ codes "VERNEED" ∷
    codes "VERNEEDNUM" ∷ codes "0000000070000000" ∷ codes "000000007ffffffc" ∷ codes "AUXILIARY" ∷
    codes "USED" ∷ codes "FILTER" ∷ codes "0000000080000000" ∷ []

-- the further symbol type, in its column
abbrev pub SymbolTypesOfGnu : Type 0
SymbolTypesOfGnu =
    map (name_or_number (symbol_types true) 7)
    (9 ∷ 10 ∷ 11 ∷ [])
    ≡ codes "      9" ∷ codes "IFUNC  " ∷ codes "     11" ∷ []

-- the further binding, in its column
abbrev pub BindingsOfGnu : Type 0
BindingsOfGnu =
    map (name_or_number (bindings true) 6)
    (9 ∷ 10 ∷ 11 ∷ [])
    ≡ codes "     9" ∷ codes "UNIQUE" ∷ codes "    11" ∷ []

-- the further special section index, in its column
abbrev pub PlacesOfGnu : Type 0
PlacesOfGnu =
    map (name_or_number (places true 62) 5)
    (0xff01 ∷ 0xff02 ∷ 0xff03 ∷ [])
    ≡ codes "65281" ∷ codes "LCOM " ∷ codes "65283" ∷ []

-- on another machine it is a number
abbrev pub PlacesElsewhere : Type 0
PlacesElsewhere =
    map (name_or_number (places true 183) 5)
    (0xff02 ∷ [])
    ≡ codes "65282" ∷ []

-- each further flag alone on x86-64, a bit that has no letter, twelve letters, and more than twelve
abbrev pub FlagsOfGnu : Type 0
FlagsOfGnu =
    map (section_flags_text true 62)
    (0x200000 ∷ 0x1000000 ∷ 0x10000000 ∷ 0x80000000 ∷ 0x400000 ∷ 0x2007f7 ∷ 0x90000002 ∷ 0x200ff7 ∷ 0x200fff ∷
    0xffffffffffffffff ∷ [])
    ≡ codes "R" ∷ codes "D" ∷ codes "l" ∷ codes "E" ∷ codes "?" ∷ codes "WAXMSILOGTR" ∷ codes "AlE" ∷
    codes "WAXMSILOGTCR" ∷ codes "WAXMSILOGTC?" ∷ codes "WAXMSILOGTC?" ∷ []

-- on another machine one of them has no letter
abbrev pub FlagsElsewhere : Type 0
FlagsElsewhere =
    map (section_flags_text true 183)
    (0x90000002 ∷ 0x10000000 ∷ 0x80000000 ∷ [])
    ≡ codes "AE?" ∷ codes "?" ∷ codes "E" ∷ []

-- without the GNU names none of them has
abbrev pub FlagsWithoutGnu : Type 0
FlagsWithoutGnu =
    map (section_flags_text false 62)
    (0x200000 ∷ 0x1000000 ∷ 0x10000000 ∷ 0x80000000 ∷ [])
    ≡ codes "?" ∷ codes "?" ∷ codes "?" ∷ codes "?" ∷ []
