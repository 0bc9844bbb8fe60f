-- Worked examples of fields and names: records whose bytes all differ, and each number that has a
-- name.
use Rattle.std.specs.Prelude.{◌≡◌, ℕ, true, false, List, [], ◌∷◌, codes, map}
use Rattle.elf_model.specs.Prelude.{bindings, cause_word, d_tag, d_un, dynamic_prefix, dynamic_tag_text, e_entry, e_flags, e_machine, e_phentsize, e_phnum, e_phoff, e_shentsize, e_shnum, e_shoff, e_shstrndx, e_type, escaped, file_type_text, header_line, n_descsz, n_namesz, n_type, name_or_number, numbers_from, p_align, p_filesz, p_flags, p_memsz, p_offset, p_paddr, p_type, p_vaddr, places, r_addend, r_info, r_offset, relocation_prefix, relocation_type_text, section_flags_text, section_prefix, section_type_text, segment_flags_text, segment_line, segment_type_text, sh_addr, sh_addralign, sh_entsize, sh_flags, sh_info, sh_link, sh_name, sh_offset, sh_size, sh_type, st_info, st_name, st_other, st_shndx, st_size, st_value, symbol_prefix, symbol_types, visibilities}
use Rattle.elf_model.specs.declared.causes.Cause.TheVariants.{BadClass, BadData, BadLink, BadVersion, Budget, EntrySize, ExtendedNumbering, HashCycle, HashIndex, HashShape, MemberCut, NameOutside, NameUnended, NoHash, NotArchive, NotElf, NotRel, NotStrings, NoteCut, Overflow, PlaceOutside, Short, SizeNotWhole, SymbolIndex, TableOutside, Thin, TooLong, TooManyHeaders, Undefined, Unmapped, Unplaced, Unsupported, VersionCut, VersionIndex}
use Rattle.elf_model.specs.declared.formats.Format.TheVariants.{Columns}

-- 128 bytes, each of which is its own offset
unfoldable pub places_as_bytes : List ℕ
places_as_bytes = numbers_from 0 128

-- the fields of the file header
abbrev pub HeaderFieldsStand : Type 0
HeaderFieldsStand =
    (header_line Columns places_as_bytes
    ≡ codes "H 1110  4882 1f1e1d1c1b1a1918 2726252423222120 2f2e2d2c2b2a2928 33323130 14648 15676 16190\n")
    × (e_phentsize places_as_bytes ≡ 0x3736)
    × (e_shentsize places_as_bytes ≡ 0x3b3a)

-- the fields of a section header
abbrev pub SectionFieldsStand : Type 0
SectionFieldsStand =
    ((section_prefix Columns false 0x1312 places_as_bytes 0x40 12345).text
    ≡ codes "S 12345 47464544      IOC?         5756555453525150 5f5e5d5c5b5a5958 6766656463626160 6b6a6968 6f6e6d6c ")
    × (sh_name places_as_bytes 0x40 ≡ 0x43424140)
    × (sh_addralign places_as_bytes 0x40 ≡ 0x7776757473727170)
    × (sh_entsize places_as_bytes 0x40 ≡ 0x7f7e7d7c7b7a7978)

-- the fields of a program header
abbrev pub SegmentFieldsStand : Type 0
SegmentFieldsStand =
    segment_line Columns false places_as_bytes 0x40 7
    ≡ codes "P     7 43424140 R-- 4f4e4d4c4b4a4948 5756555453525150 5f5e5d5c5b5a5958 6766656463626160 6f6e6d6c6b6a6968 7776757473727170\n"

-- the fields of a symbol; its index may be wider than its column
abbrev pub SymbolFieldsStand : Type 0
SymbolFieldsStand =
    ((symbol_prefix Columns false 0x1312 places_as_bytes 0x40 3 12345678901).text
    ≡ codes "Y     3 12345678901 4f4e4d4c4b4a4948 5756555453525150 FILE         4 INTERNAL  18246 ")
    × (st_name places_as_bytes 0x40 ≡ 0x43424140)

-- the fields of a relocation entry
abbrev pub RelocationFieldsStand : Type 0
RelocationFieldsStand =
    (relocation_prefix true Columns false 62 places_as_bytes 0x40 3).text
    ≡ codes "R     3 4746454443424140 #1263159624 4f4e4d4c +5756555453525150 "

-- the fields of a dynamic entry and of a note header; an entry's index may be wider than its column
abbrev pub OtherFieldsStand : Type 0
OtherFieldsStand =
    ((dynamic_prefix Columns false places_as_bytes 0x40 123456).text ≡ codes "D 123456 4746454443424140 4f4e4d4c4b4a4948 ")
    × (n_namesz places_as_bytes 0x40 ≡ 0x43424140)
    × (n_descsz places_as_bytes 0x40 ≡ 0x47464544)
    × (n_type places_as_bytes 0x40 ≡ 0x4b4a4948)

-- each field is as wide as it is, and no wider, also if a line shows fewer digits of it or a name
abbrev pub FieldsHaveWidths : Type 0
FieldsHaveWidths =
    (map (λ read. read places_as_bytes) (e_type ∷ e_machine ∷ e_entry ∷ e_phoff ∷ e_shoff ∷ e_flags ∷ e_phnum ∷ e_shnum ∷ e_shstrndx ∷ [])
    ≡ 0x1110 ∷ 0x1312 ∷ 0x1f1e1d1c1b1a1918 ∷ 0x2726252423222120 ∷ 0x2f2e2d2c2b2a2928 ∷ 0x33323130 ∷ 0x3938 ∷ 0x3d3c ∷ 0x3f3e ∷ [])
    × (map (λ read. read places_as_bytes 0x40) (sh_type ∷ sh_flags ∷ sh_addr ∷ sh_offset ∷ sh_size ∷ sh_link ∷ sh_info ∷ [])
    ≡ 0x47464544 ∷ 0x4f4e4d4c4b4a4948 ∷ 0x5756555453525150 ∷ 0x5f5e5d5c5b5a5958 ∷ 0x6766656463626160 ∷ 0x6b6a6968 ∷ 0x6f6e6d6c ∷ [])
    × (map (λ read. read places_as_bytes 0x40) (p_type ∷ p_flags ∷ p_offset ∷ p_vaddr ∷ p_paddr ∷ p_filesz ∷ p_memsz ∷ p_align ∷ [])
    ≡ 0x43424140 ∷ 0x47464544 ∷ 0x4f4e4d4c4b4a4948 ∷ 0x5756555453525150 ∷ 0x5f5e5d5c5b5a5958 ∷ 0x6766656463626160
    ∷ 0x6f6e6d6c6b6a6968 ∷ 0x7776757473727170 ∷ [])
    × (map (λ read. read places_as_bytes 0x40) (st_info ∷ st_other ∷ st_shndx ∷ st_value ∷ st_size ∷ [])
    ≡ 0x44 ∷ 0x45 ∷ 0x4746 ∷ 0x4f4e4d4c4b4a4948 ∷ 0x5756555453525150 ∷ [])
    × (map (λ read. read places_as_bytes 0x40) (r_offset ∷ r_info ∷ r_addend ∷ d_tag ∷ d_un ∷ [])
    ≡ 0x4746454443424140 ∷ 0x4f4e4d4c4b4a4948 ∷ 0x5756555453525150 ∷ 0x4746454443424140 ∷ 0x4f4e4d4c4b4a4948 ∷ [])

-- each file type, and the number after the last
abbrev pub FileTypesHaveNames : Type 0
FileTypesHaveNames =
    map file_type_text (numbers_from 0 6)
    ≡ codes "NONE" ∷ codes "REL" ∷ codes "EXEC" ∷ codes "DYN" ∷ codes "CORE" ∷ codes "0005" ∷ []

-- each section type, the numbers between them, and the number after the last
abbrev pub SectionTypesHaveNames : Type 0
SectionTypesHaveNames =
    map (section_type_text false 62) (numbers_from 0 20)
    ≡ codes "NULL" ∷ codes "PROGBITS" ∷ codes "SYMTAB" ∷ codes "STRTAB" ∷ codes "RELA" ∷ codes "HASH" ∷ codes "DYNAMIC"
    ∷ codes "NOTE" ∷ codes "NOBITS" ∷ codes "REL" ∷ codes "SHLIB" ∷ codes "DYNSYM" ∷ codes "0000000c" ∷ codes "0000000d"
    ∷ codes "INIT_ARRAY" ∷ codes "FINI_ARRAY" ∷ codes "PREINIT_ARRAY" ∷ codes "GROUP" ∷ codes "SYMTAB_SHNDX"
    ∷ codes "00000013" ∷ []

-- each section flag alone, and the bits without a letter
abbrev pub SectionFlagsHaveLetters : Type 0
SectionFlagsHaveLetters =
    map (section_flags_text false 62)
    (0 ∷ 1 ∷ 2 ∷ 4 ∷ 8 ∷ 0x10 ∷ 0x20 ∷ 0x40 ∷ 0x80 ∷ 0x100 ∷ 0x200 ∷ 0x400 ∷ 0x800 ∷ 0x1000 ∷ 0x8000000000000000 ∷ [])
    ≡ [] ∷ codes "W" ∷ codes "A" ∷ codes "X" ∷ codes "?" ∷ codes "M" ∷ codes "S" ∷ codes "I" ∷ codes "L" ∷ codes "O"
    ∷ codes "G" ∷ codes "T" ∷ codes "C" ∷ codes "?" ∷ codes "?" ∷ []

-- each segment type, and the number after the last
abbrev pub SegmentTypesHaveNames : Type 0
SegmentTypesHaveNames =
    map (segment_type_text false) (numbers_from 0 9)
    ≡ codes "NULL" ∷ codes "LOAD" ∷ codes "DYNAMIC" ∷ codes "INTERP" ∷ codes "NOTE" ∷ codes "SHLIB" ∷ codes "PHDR"
    ∷ codes "TLS" ∷ codes "00000008" ∷ []

-- each set of permissions, and a bit that is none
abbrev pub PermissionsHaveLetters : Type 0
PermissionsHaveLetters =
    map segment_flags_text (numbers_from 0 9)
    ≡ codes "---" ∷ codes "--X" ∷ codes "-W-" ∷ codes "-WX" ∷ codes "R--" ∷ codes "R-X" ∷ codes "RW-" ∷ codes "RWX"
    ∷ codes "---" ∷ []

-- the types, bindings, visibilities and section indices of symbols, each in its column
abbrev pub SymbolNumbersHaveNames : Type 0
SymbolNumbersHaveNames =
    (map (name_or_number (symbol_types false) 7) (numbers_from 0 8)
    ≡ codes "NOTYPE " ∷ codes "OBJECT " ∷ codes "FUNC   " ∷ codes "SECTION" ∷ codes "FILE   " ∷ codes "COMMON " ∷ codes "TLS    "
    ∷ codes "      7" ∷ [])
    × (map (name_or_number (bindings false) 6) (numbers_from 0 4)
    ≡ codes "LOCAL " ∷ codes "GLOBAL" ∷ codes "WEAK  " ∷ codes "     3" ∷ [])
    × (map (name_or_number visibilities 9) (numbers_from 0 4)
    ≡ codes "DEFAULT  " ∷ codes "INTERNAL " ∷ codes "HIDDEN   " ∷ codes "PROTECTED" ∷ [])
    × (map (name_or_number (places false 62) 5) (0 ∷ 1 ∷ 0xff00 ∷ 0xfff1 ∷ 0xfff2 ∷ 0xffff ∷ [])
    ≡ codes "UND  " ∷ codes "    1" ∷ codes "65280" ∷ codes "ABS  " ∷ codes "COM  " ∷ codes "65535" ∷ [])

-- each relocation type of x86-64 and the numbers between them; another machine has no names
abbrev pub RelocationTypesHaveNames : Type 0
RelocationTypesHaveNames =
    (map (relocation_type_text false 62) (numbers_from 0 16)
    ≡ codes "NONE" ∷ codes "64" ∷ codes "PC32" ∷ codes "#3" ∷ codes "PLT32" ∷ codes "COPY" ∷ codes "GLOB_DAT" ∷ codes "JUMP_SLOT"
    ∷ codes "RELATIVE" ∷ codes "#9" ∷ codes "32" ∷ codes "32S" ∷ codes "16" ∷ codes "#13" ∷ codes "8" ∷ codes "#15" ∷ [])
    × (map (relocation_type_text false 62) (numbers_from 23 3) ≡ codes "#23" ∷ codes "PC64" ∷ codes "#25" ∷ [])
    × (map (relocation_type_text false 61) (numbers_from 0 3) ≡ codes "#0" ∷ codes "#1" ∷ codes "#2" ∷ [])

-- each dynamic tag, and the number after the last
abbrev pub DynamicTagsHaveNames : Type 0
DynamicTagsHaveNames =
    map (dynamic_tag_text false) (numbers_from 0 32)
    ≡ codes "NULL" ∷ codes "NEEDED" ∷ codes "PLTRELSZ" ∷ codes "PLTGOT" ∷ codes "HASH" ∷ codes "STRTAB" ∷ codes "SYMTAB"
    ∷ codes "RELA" ∷ codes "RELASZ" ∷ codes "RELAENT" ∷ codes "STRSZ" ∷ codes "SYMENT" ∷ codes "INIT" ∷ codes "FINI"
    ∷ codes "SONAME" ∷ codes "RPATH" ∷ codes "SYMBOLIC" ∷ codes "REL" ∷ codes "RELSZ" ∷ codes "RELENT" ∷ codes "PLTREL"
    ∷ codes "DEBUG" ∷ codes "TEXTREL" ∷ codes "JMPREL" ∷ codes "BIND_NOW" ∷ codes "INIT_ARRAY" ∷ codes "FINI_ARRAY"
    ∷ codes "INIT_ARRAYSZ" ∷ codes "FINI_ARRAYSZ" ∷ codes "RUNPATH" ∷ codes "FLAGS" ∷ codes "000000000000001f" ∷ []

-- each cause and its word
abbrev pub CausesHaveWords : Type 0
CausesHaveWords =
    map cause_word
    (Short ∷ NotElf ∷ BadClass ∷ BadData ∷ BadVersion ∷ ExtendedNumbering ∷ TooManyHeaders ∷ EntrySize ∷ TableOutside ∷ BadLink
    ∷ NotStrings ∷ SizeNotWhole ∷ NameOutside ∷ NameUnended ∷ NoteCut ∷ NoHash ∷ HashShape ∷ HashIndex ∷ HashCycle
    ∷ Unsupported ∷ Overflow ∷ NotRel ∷ Unplaced ∷ Undefined ∷ PlaceOutside ∷ SymbolIndex
    ∷ TooLong ∷ Budget ∷ Unmapped ∷ Thin ∷ NotArchive ∷ MemberCut ∷ VersionCut ∷ VersionIndex ∷ [])
    ≡ codes "short" ∷ codes "not-elf" ∷ codes "class" ∷ codes "data" ∷ codes "version" ∷ codes "extended-numbering"
    ∷ codes "too-many-headers" ∷ codes "entry-size" ∷ codes "table-outside" ∷ codes "bad-link" ∷ codes "not-strings"
    ∷ codes "size-not-whole" ∷ codes "name-outside" ∷ codes "name-unended" ∷ codes "note-cut" ∷ codes "no-hash"
    ∷ codes "hash-shape" ∷ codes "hash-index" ∷ codes "hash-cycle" ∷ codes "unsupported" ∷ codes "overflow"
    ∷ codes "not-rel" ∷ codes "unplaced" ∷ codes "undefined"
    ∷ codes "place-outside" ∷ codes "symbol-index" ∷ codes "too-long" ∷ codes "budget" ∷ codes "unmapped"
    ∷ codes "thin" ∷ codes "not-archive" ∷ codes "member-cut" ∷ codes "version-cut"
    ∷ codes "version-index" ∷ []

-- the first and the last printing character and their neighbors, and those of the backslash
abbrev pub BytesAreEscaped : Type 0
BytesAreEscaped =
    escaped (0 ∷ 0x1f ∷ 0x20 ∷ 0x5b ∷ 0x5c ∷ 0x5d ∷ 0x7e ∷ 0x7f ∷ 0xff ∷ []) ≡ codes "\\x00\\x1f [\\\\]~\\x7f\\xff"
