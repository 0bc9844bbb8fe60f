-- The numbers that a listing has names for, set by set, and what is printed for any other number.
-- The standards' names are always used; if GNU numbers have names too, those are added, some of
-- them only for x86-64.
use Rattle.std.specs.Prelude.{ℕ, ◌+◌, ◌==◌, ◌&&◌, nat_lt, if◌then◌else◌, Bool, List, [], ◌∷◌, ◌++◌, length, take, Option, None, Some, codes, decimal}
use Rattle.std.specs.Int.RustNames.{bit_and}
use Rattle.elf_model.specs.Numbers.{EM_X86_64}
use Rattle.elf_model.specs.Text.{hex, left_in, right_decimal, name_of, name_in}

-- a name at the left of a column, or if there is none the number at the right of it
abbrev pub name_or_decimal : ℕ → Option (List ℕ) → ℕ → List ℕ
name_or_decimal width (Some name) n = left_in width name
name_or_decimal width None n = right_decimal width n

-- a number's name in a column, otherwise the number
abbrev pub name_or_number : List (ℕ × List ℕ) → ℕ → ℕ → List ℕ
name_or_number names width n = name_or_decimal width (name_of names n) n

-- names that are used under a condition
abbrev pub names_where : Bool → List (ℕ × List ℕ) → List (ℕ × List ℕ)
names_where condition names = if condition then names else []

-- names that are used under a condition, on x86-64 only
abbrev pub names_on_x86_64 : Bool → ℕ → List (ℕ × List ℕ) → List (ℕ × List ℕ)
names_on_x86_64 condition machine names = names_where (condition && (machine == EM_X86_64)) names

-- the object file types (gABI 4, ELF Header)
unfoldable pub file_types : List (ℕ × List ℕ)
file_types = (0, codes "NONE") ∷ (1, codes "REL") ∷ (2, codes "EXEC") ∷ (3, codes "DYN") ∷ (4, codes "CORE") ∷ []

-- an object file type's name, or its number in four digits
unfoldable pub file_type_text : ℕ → List ℕ
file_type_text n = name_in file_types n (hex 4 n)

-- the section types (gABI 4, Section Types)
unfoldable pub standard_section_types : List (ℕ × List ℕ)
standard_section_types =
    (0, codes "NULL") ∷ (1, codes "PROGBITS") ∷ (2, codes "SYMTAB") ∷ (3, codes "STRTAB") ∷ (4, codes "RELA")
    ∷ (5, codes "HASH") ∷ (6, codes "DYNAMIC") ∷ (7, codes "NOTE") ∷ (8, codes "NOBITS") ∷ (9, codes "REL")
    ∷ (10, codes "SHLIB") ∷ (11, codes "DYNSYM") ∷ (14, codes "INIT_ARRAY") ∷ (15, codes "FINI_ARRAY")
    ∷ (16, codes "PREINIT_ARRAY") ∷ (17, codes "GROUP") ∷ (18, codes "SYMTAB_SHNDX") ∷ []

-- the GNU section types: relative relocations, attributes, the GNU hash table, a list of prelinked
-- libraries, definitions, needs and indices of symbol versions
unfoldable pub gnu_section_types : List (ℕ × List ℕ)
gnu_section_types =
    (19, codes "RELR") ∷ (0x6ffffff5, codes "GNU_ATTRIBS") ∷ (0x6ffffff6, codes "GNU_HASH") ∷ (0x6ffffff7, codes "GNU_LIBLIST")
    ∷ (0x6ffffffd, codes "VERDEF") ∷ (0x6ffffffe, codes "VERNEED") ∷ (0x6fffffff, codes "VERSYM") ∷ []

-- the section type of unwind tables (x86-64 psABI, Section Types)
unfoldable pub x86_64_section_types : List (ℕ × List ℕ)
x86_64_section_types = (0x70000001, codes "X86_64_UNWIND") ∷ []

-- the section types that have names besides the standard's
unfoldable pub further_section_types : Bool → ℕ → List (ℕ × List ℕ)
further_section_types gnu machine = names_where gnu gnu_section_types ++ names_on_x86_64 gnu machine x86_64_section_types

-- the section types that have names
unfoldable pub section_types : Bool → ℕ → List (ℕ × List ℕ)
section_types gnu machine = standard_section_types ++ further_section_types gnu machine

-- a section type's name, or its number in eight digits
unfoldable pub section_type_text : Bool → ℕ → ℕ → List ℕ
section_type_text gnu machine n = name_in (section_types gnu machine) n (hex 8 n)

-- the section flags and their letters, in the order of a listing (gABI 4, Section Attribute Flags):
-- write, alloc, execinstr, merge, strings, info link, link order, os nonconforming, group, tls,
-- compressed
unfoldable pub standard_section_flags : List (ℕ × List ℕ)
standard_section_flags =
    (0x1, codes "W") ∷ (0x2, codes "A") ∷ (0x4, codes "X") ∷ (0x10, codes "M") ∷ (0x20, codes "S") ∷ (0x40, codes "I")
    ∷ (0x80, codes "L") ∷ (0x100, codes "O") ∷ (0x200, codes "G") ∷ (0x400, codes "T") ∷ (0x800, codes "C") ∷ []

-- the GNU section flags: retain, mbind; large (x86-64 psABI, Section Attribute Flags); exclude
unfoldable pub gnu_section_flags : List (ℕ × List ℕ)
gnu_section_flags = (0x200000, codes "R") ∷ (0x1000000, codes "D") ∷ []

unfoldable pub x86_64_section_flags : List (ℕ × List ℕ)
x86_64_section_flags = (0x10000000, codes "l") ∷ []

unfoldable pub processor_section_flags : List (ℕ × List ℕ)
processor_section_flags = (0x80000000, codes "E") ∷ []

-- the section flags that have letters besides the standard's
unfoldable pub further_section_flags : Bool → ℕ → List (ℕ × List ℕ)
further_section_flags gnu machine =
    names_where gnu gnu_section_flags
    ++ (names_on_x86_64 gnu machine x86_64_section_flags ++ names_where gnu processor_section_flags)

-- the section flags that have letters, in the order of a listing
unfoldable pub section_flags : Bool → ℕ → List (ℕ × List ℕ)
section_flags gnu machine = standard_section_flags ++ further_section_flags gnu machine

-- the letters of the flags that are set
unfoldable pub letters_of : List (ℕ × List ℕ) → ℕ → List ℕ
letters_of [] flags = []
letters_of (entry ∷ entries) flags =
    (if bit_and flags entry.0 == entry.0 then entry.1 else []) ++ letters_of entries flags

-- all flags that have a letter: each is a bit of its own, so that their sum has these bits
abbrev pub flags_with_letters : List (ℕ × List ℕ) → ℕ
flags_with_letters [] = 0
flags_with_letters (entry ∷ entries) = entry.0 + flags_with_letters entries

-- the mark of flags without a name
abbrev flags_mark : List ℕ
flags_mark = codes "?"

-- the letters of the flags of a table that are set, then the mark if any other bit is
unfoldable pub letters_and_mark : List (ℕ × List ℕ) → ℕ → List ℕ
letters_and_mark flags n = letters_of flags n ++ (if bit_and n (flags_with_letters flags) == n then [] else flags_mark)

-- a text of letters in twelve columns: of a longer one the first eleven letters, and the mark
unfoldable pub flags_column : List ℕ → List ℕ
flags_column letters = if nat_lt 12 (length letters) then take 11 letters ++ flags_mark else letters

-- a section's flags
unfoldable pub section_flags_text : Bool → ℕ → ℕ → List ℕ
section_flags_text gnu machine n = flags_column (letters_and_mark (section_flags gnu machine) n)

-- the segment types (gABI 5, Segment Types)
unfoldable pub standard_segment_types : List (ℕ × List ℕ)
standard_segment_types =
    (0, codes "NULL") ∷ (1, codes "LOAD") ∷ (2, codes "DYNAMIC") ∷ (3, codes "INTERP") ∷ (4, codes "NOTE")
    ∷ (5, codes "SHLIB") ∷ (6, codes "PHDR") ∷ (7, codes "TLS") ∷ []

-- the GNU segment types: frame tables, permissions of the stack, what is read-only after
-- relocation, properties, stack traces
unfoldable pub gnu_segment_types : List (ℕ × List ℕ)
gnu_segment_types =
    (0x6474e550, codes "EH_FRAME") ∷ (0x6474e551, codes "STACK") ∷ (0x6474e552, codes "RELRO") ∷ (0x6474e553, codes "PROPERTY")
    ∷ (0x6474e554, codes "SFRAME") ∷ []

-- the segment types that have names
unfoldable pub segment_types : Bool → List (ℕ × List ℕ)
segment_types gnu = standard_segment_types ++ names_where gnu gnu_segment_types

-- a segment type's name, or its number in eight digits
unfoldable pub segment_type_text : Bool → ℕ → List ℕ
segment_type_text gnu n = name_in (segment_types gnu) n (hex 8 n)

-- a flag's letter, or a dash if it is not set
unfoldable pub letter_or_dash : ℕ → ℕ → List ℕ → List ℕ
letter_or_dash flags flag letter = if bit_and flags flag == flag then letter else codes "-"

-- a segment's permissions: read, write, execute (gABI 5, Segment Permissions)
unfoldable pub segment_flags_text : ℕ → List ℕ
segment_flags_text flags =
    letter_or_dash flags 4 (codes "R") ++ letter_or_dash flags 2 (codes "W") ++ letter_or_dash flags 1 (codes "X")

-- the symbol types (gABI 4, Symbol Table)
unfoldable pub standard_symbol_types : List (ℕ × List ℕ)
standard_symbol_types =
    (0, codes "NOTYPE") ∷ (1, codes "OBJECT") ∷ (2, codes "FUNC") ∷ (3, codes "SECTION") ∷ (4, codes "FILE")
    ∷ (5, codes "COMMON") ∷ (6, codes "TLS") ∷ []

-- the GNU symbol type: a function that returns the address to use
unfoldable pub gnu_symbol_types : List (ℕ × List ℕ)
gnu_symbol_types = (10, codes "IFUNC") ∷ []

-- the symbol types that have names
unfoldable pub symbol_types : Bool → List (ℕ × List ℕ)
symbol_types gnu = standard_symbol_types ++ names_where gnu gnu_symbol_types

-- the symbol bindings (gABI 4, Symbol Table)
unfoldable pub standard_bindings : List (ℕ × List ℕ)
standard_bindings = (0, codes "LOCAL") ∷ (1, codes "GLOBAL") ∷ (2, codes "WEAK") ∷ []

-- the GNU symbol binding: unique in the whole process
unfoldable pub gnu_bindings : List (ℕ × List ℕ)
gnu_bindings = (10, codes "UNIQUE") ∷ []

-- the symbol bindings that have names
unfoldable pub bindings : Bool → List (ℕ × List ℕ)
bindings gnu = standard_bindings ++ names_where gnu gnu_bindings

-- the symbol visibilities (gABI 4, Symbol Table): each of the four has a name
unfoldable pub visibilities : List (ℕ × List ℕ)
visibilities = (0, codes "DEFAULT") ∷ (1, codes "INTERNAL") ∷ (2, codes "HIDDEN") ∷ (3, codes "PROTECTED") ∷ []

-- the special section indices of a symbol (gABI 4, Special Section Indexes)
unfoldable pub standard_places : List (ℕ × List ℕ)
standard_places = (0, codes "UND") ∷ (0xfff1, codes "ABS") ∷ (0xfff2, codes "COM") ∷ []

-- the section index of large common symbols (x86-64 psABI, Special Sections)
unfoldable pub x86_64_places : List (ℕ × List ℕ)
x86_64_places = (0xff02, codes "LCOM") ∷ []

-- the special section indices that have names
unfoldable pub places : Bool → ℕ → List (ℕ × List ℕ)
places gnu machine = standard_places ++ names_on_x86_64 gnu machine x86_64_places

-- the relocation types of x86-64 whose values are stored or that a loader applies (x86-64 psABI,
-- Relocation Types)
unfoldable pub standard_relocation_types : List (ℕ × List ℕ)
standard_relocation_types =
    (0, codes "NONE") ∷ (1, codes "64") ∷ (2, codes "PC32") ∷ (4, codes "PLT32") ∷ (5, codes "COPY") ∷ (6, codes "GLOB_DAT")
    ∷ (7, codes "JUMP_SLOT") ∷ (8, codes "RELATIVE") ∷ (10, codes "32") ∷ (11, codes "32S") ∷ (12, codes "16")
    ∷ (14, codes "8") ∷ (24, codes "PC64") ∷ []

-- the other relocation types of x86-64 (x86-64 psABI, Relocation Types), and two GNU ones; a name
-- of more than ten letters is shortened
unfoldable pub further_relocation_types : List (ℕ × List ℕ)
further_relocation_types =
    (3, codes "GOT32") ∷ (9, codes "GOTPCREL") ∷ (13, codes "PC16") ∷ (15, codes "PC8") ∷ (16, codes "DTPMOD64")
    ∷ (17, codes "DTPOFF64") ∷ (18, codes "TPOFF64") ∷ (19, codes "TLSGD") ∷ (20, codes "TLSLD") ∷ (21, codes "DTPOFF32")
    ∷ (22, codes "GOTTPOFF") ∷ (23, codes "TPOFF32") ∷ (25, codes "GOTOFF64") ∷ (26, codes "GOTPC32") ∷ (27, codes "GOT64")
    ∷ (28, codes "GOTPCREL64") ∷ (29, codes "GOTPC64") ∷ (30, codes "GOTPLT64") ∷ (31, codes "PLTOFF64") ∷ (32, codes "SIZE32")
    ∷ (33, codes "SIZE64") ∷ (34, codes "GOTPC_TLSD") ∷ (35, codes "TLSD_CALL") ∷ (36, codes "TLSDESC") ∷ (37, codes "IRELATIVE")
    ∷ (38, codes "RELATIVE64") ∷ (39, codes "PC32_BND") ∷ (40, codes "PLT32_BND") ∷ (41, codes "GOTPCRELX")
    ∷ (42, codes "REX_GOTPCX") ∷ (250, codes "VTINHERIT") ∷ (251, codes "VTENTRY") ∷ []

-- the relocation types of x86-64 that have names
unfoldable pub relocation_types : Bool → List (ℕ × List ℕ)
relocation_types gnu = standard_relocation_types ++ names_where gnu further_relocation_types

-- a number after a number sign
unfoldable pub number_sign : ℕ → List ℕ
number_sign n = codes "#" ++ decimal n

-- the relocation types of a machine that have names: they are known for x86-64 alone
abbrev pub relocation_names : Bool → ℕ → List (ℕ × List ℕ)
relocation_names gnu machine = names_where (machine == EM_X86_64) (relocation_types gnu)

-- a relocation type's name on a machine, or its number
unfoldable pub relocation_type_text : Bool → ℕ → ℕ → List ℕ
relocation_type_text gnu machine n = name_in (relocation_names gnu machine) n (number_sign n)

-- the dynamic array tags (gABI 5, Dynamic Section)
unfoldable pub standard_dynamic_tags : List (ℕ × List ℕ)
standard_dynamic_tags =
    (0, codes "NULL") ∷ (1, codes "NEEDED") ∷ (2, codes "PLTRELSZ") ∷ (3, codes "PLTGOT") ∷ (4, codes "HASH")
    ∷ (5, codes "STRTAB") ∷ (6, codes "SYMTAB") ∷ (7, codes "RELA") ∷ (8, codes "RELASZ") ∷ (9, codes "RELAENT")
    ∷ (10, codes "STRSZ") ∷ (11, codes "SYMENT") ∷ (12, codes "INIT") ∷ (13, codes "FINI") ∷ (14, codes "SONAME")
    ∷ (15, codes "RPATH") ∷ (16, codes "SYMBOLIC") ∷ (17, codes "REL") ∷ (18, codes "RELSZ") ∷ (19, codes "RELENT")
    ∷ (20, codes "PLTREL") ∷ (21, codes "DEBUG") ∷ (22, codes "TEXTREL") ∷ (23, codes "JMPREL") ∷ (24, codes "BIND_NOW")
    ∷ (25, codes "INIT_ARRAY") ∷ (26, codes "FINI_ARRAY") ∷ (27, codes "INIT_ARRAYSZ") ∷ (28, codes "FINI_ARRAYSZ")
    ∷ (29, codes "RUNPATH") ∷ (30, codes "FLAGS") ∷ []

-- the tags that were added to the standard later, and the GNU tags
unfoldable pub gnu_dynamic_tags : List (ℕ × List ℕ)
gnu_dynamic_tags =
    (32, codes "PREINIT_ARRAY") ∷ (33, codes "PREINIT_ARRAYSZ") ∷ (34, codes "SYMTAB_SHNDX") ∷ (35, codes "RELRSZ")
    ∷ (36, codes "RELR") ∷ (37, codes "RELRENT") ∷ (0x6ffffdf4, codes "GNU_FLAGS_1") ∷ (0x6ffffdf5, codes "GNU_PRELINKED")
    ∷ (0x6ffffdf6, codes "GNU_CONFLICTSZ") ∷ (0x6ffffdf7, codes "GNU_LIBLISTSZ") ∷ (0x6ffffdf8, codes "CHECKSUM")
    ∷ (0x6ffffdf9, codes "PLTPADSZ") ∷ (0x6ffffdfa, codes "MOVEENT") ∷ (0x6ffffdfb, codes "MOVESZ")
    ∷ (0x6ffffdfc, codes "FEATURE") ∷ (0x6ffffdfd, codes "POSFLAG_1") ∷ (0x6ffffdfe, codes "SYMINSZ")
    ∷ (0x6ffffdff, codes "SYMINENT") ∷ (0x6ffffef5, codes "GNU_HASH") ∷ (0x6ffffef6, codes "TLSDESC_PLT")
    ∷ (0x6ffffef7, codes "TLSDESC_GOT") ∷ (0x6ffffef8, codes "GNU_CONFLICT") ∷ (0x6ffffef9, codes "GNU_LIBLIST")
    ∷ (0x6ffffefa, codes "CONFIG") ∷ (0x6ffffefb, codes "DEPAUDIT") ∷ (0x6ffffefc, codes "AUDIT") ∷ (0x6ffffefd, codes "PLTPAD")
    ∷ (0x6ffffefe, codes "MOVETAB") ∷ (0x6ffffeff, codes "SYMINFO") ∷ (0x6ffffff0, codes "VERSYM") ∷ (0x6ffffff9, codes "RELACOUNT")
    ∷ (0x6ffffffa, codes "RELCOUNT") ∷ (0x6ffffffb, codes "FLAGS_1") ∷ (0x6ffffffc, codes "VERDEF") ∷ (0x6ffffffd, codes "VERDEFNUM")
    ∷ (0x6ffffffe, codes "VERNEED") ∷ (0x6fffffff, codes "VERNEEDNUM") ∷ (0x7ffffffd, codes "AUXILIARY") ∷ (0x7ffffffe, codes "USED")
    ∷ (0x7fffffff, codes "FILTER") ∷ []

-- the tags that have names
unfoldable pub dynamic_tags : Bool → List (ℕ × List ℕ)
dynamic_tags gnu = standard_dynamic_tags ++ names_where gnu gnu_dynamic_tags

-- a tag's name, or its number in sixteen digits
unfoldable pub dynamic_tag_text : Bool → ℕ → List ℕ
dynamic_tag_text gnu n = name_in (dynamic_tags gnu) n (hex 16 n)
