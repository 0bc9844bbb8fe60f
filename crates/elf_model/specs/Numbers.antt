-- The numbers that the standards name, as far as the definitions need them.
use Rattle.std.specs.Prelude.{ℕ}

-- the type of a relocatable file (gABI 4, ELF Header)
abbrev pub ET_REL : ℕ
ET_REL = 1

-- the machine number of x86-64 (x86-64 psABI, Machine Information)
abbrev pub EM_X86_64 : ℕ
EM_X86_64 = 62

-- the machine numbers of AArch64 and RISC-V (their ELF specifications, Machine Information)
abbrev pub EM_AARCH64 : ℕ
EM_AARCH64 = 183

abbrev pub EM_RISCV : ℕ
EM_RISCV = 243

-- the machine number of Alpha, as GNU files have it
abbrev pub EM_ALPHA : ℕ
EM_ALPHA = 0x9026

-- section types (gABI 4, Section Types)
abbrev pub SHT_NULL : ℕ
SHT_NULL = 0

abbrev pub SHT_SYMTAB : ℕ
SHT_SYMTAB = 2

abbrev pub SHT_STRTAB : ℕ
SHT_STRTAB = 3

abbrev pub SHT_RELA : ℕ
SHT_RELA = 4

abbrev pub SHT_HASH : ℕ
SHT_HASH = 5

abbrev pub SHT_DYNAMIC : ℕ
SHT_DYNAMIC = 6

abbrev pub SHT_NOTE : ℕ
SHT_NOTE = 7

abbrev pub SHT_NOBITS : ℕ
SHT_NOBITS = 8

abbrev pub SHT_REL : ℕ
SHT_REL = 9

abbrev pub SHT_DYNSYM : ℕ
SHT_DYNSYM = 11

abbrev pub SHT_RELR : ℕ
SHT_RELR = 19

-- the type of a GNU hash table
abbrev pub SHT_GNU_HASH : ℕ
SHT_GNU_HASH = 0x6ffffff6

-- GNU section types: definitions, needs and indices of symbol versions (Linux Standard Base Core,
-- Symbol Versioning)
abbrev pub SHT_GNU_VERDEF : ℕ
SHT_GNU_VERDEF = 0x6ffffffd

abbrev pub SHT_GNU_VERNEED : ℕ
SHT_GNU_VERNEED = 0x6ffffffe

abbrev pub SHT_GNU_VERSYM : ℕ
SHT_GNU_VERSYM = 0x6fffffff

-- segment types (gABI 5, Segment Types)
abbrev pub PT_LOAD : ℕ
PT_LOAD = 1

abbrev pub PT_DYNAMIC : ℕ
PT_DYNAMIC = 2

abbrev pub PT_NOTE : ℕ
PT_NOTE = 4

abbrev pub PT_TLS : ℕ
PT_TLS = 7

-- dynamic array tags (gABI 5, Dynamic Section)
abbrev pub DT_NULL : ℕ
DT_NULL = 0

abbrev pub DT_NEEDED : ℕ
DT_NEEDED = 1

abbrev pub DT_HASH : ℕ
DT_HASH = 4

abbrev pub DT_STRTAB : ℕ
DT_STRTAB = 5

abbrev pub DT_SYMTAB : ℕ
DT_SYMTAB = 6

abbrev pub DT_STRSZ : ℕ
DT_STRSZ = 10

-- those of the tables of relocations: of calls by the procedure linkage table their size, the type of
-- the entries and the address; of entries with addends, without addends, and of relative relocations
-- the address, the size of the table and that of an entry
abbrev pub DT_PLTRELSZ : ℕ
DT_PLTRELSZ = 2

abbrev pub DT_PLTREL : ℕ
DT_PLTREL = 20

abbrev pub DT_JMPREL : ℕ
DT_JMPREL = 23

abbrev pub DT_RELA : ℕ
DT_RELA = 7

abbrev pub DT_RELASZ : ℕ
DT_RELASZ = 8

abbrev pub DT_RELAENT : ℕ
DT_RELAENT = 9

abbrev pub DT_REL : ℕ
DT_REL = 17

abbrev pub DT_RELSZ : ℕ
DT_RELSZ = 18

abbrev pub DT_RELENT : ℕ
DT_RELENT = 19

abbrev pub DT_RELR : ℕ
DT_RELR = 36

abbrev pub DT_RELRSZ : ℕ
DT_RELRSZ = 35

abbrev pub DT_RELRENT : ℕ
DT_RELRENT = 37

abbrev pub DT_SONAME : ℕ
DT_SONAME = 14

abbrev pub DT_RPATH : ℕ
DT_RPATH = 15

abbrev pub DT_RUNPATH : ℕ
DT_RUNPATH = 29

-- how many entries with addends are relative, the first ones (a GNU tag)
abbrev pub DT_RELACOUNT : ℕ
DT_RELACOUNT = 0x6ffffff9

-- GNU dynamic array tags: the GNU hash table, and indices, definitions and needs of symbol versions
abbrev pub DT_GNU_HASH : ℕ
DT_GNU_HASH = 0x6ffffef5

abbrev pub DT_VERSYM : ℕ
DT_VERSYM = 0x6ffffff0

abbrev pub DT_VERDEF : ℕ
DT_VERDEF = 0x6ffffffc

abbrev pub DT_VERNEED : ℕ
DT_VERNEED = 0x6ffffffe

-- the section flags of bytes that take memory while a program runs, and of bytes that are
-- compressed (gABI 4, Section Attribute Flags)
abbrev pub SHF_ALLOC : ℕ
SHF_ALLOC = 0x2

abbrev pub SHF_COMPRESSED : ℕ
SHF_COMPRESSED = 0x800

-- special section indices (gABI 4, Special Section Indexes)
abbrev pub SHN_UNDEF : ℕ
SHN_UNDEF = 0

abbrev pub SHN_LORESERVE : ℕ
SHN_LORESERVE = 0xff00

abbrev pub SHN_ABS : ℕ
SHN_ABS = 0xfff1

abbrev pub SHN_COMMON : ℕ
SHN_COMMON = 0xfff2

-- symbol bindings (gABI 4, Symbol Binding), and one GNU binding
abbrev pub STB_LOCAL : ℕ
STB_LOCAL = 0

abbrev pub STB_GLOBAL : ℕ
STB_GLOBAL = 1

abbrev pub STB_WEAK : ℕ
STB_WEAK = 2

abbrev pub STB_GNU_UNIQUE : ℕ
STB_GNU_UNIQUE = 10

-- symbol types (gABI 4, Symbol Types), and one GNU type
abbrev pub STT_NOTYPE : ℕ
STT_NOTYPE = 0

abbrev pub STT_OBJECT : ℕ
STT_OBJECT = 1

abbrev pub STT_FUNC : ℕ
STT_FUNC = 2

abbrev pub STT_SECTION : ℕ
STT_SECTION = 3

abbrev pub STT_FILE : ℕ
STT_FILE = 4

abbrev pub STT_COMMON : ℕ
STT_COMMON = 5

abbrev pub STT_TLS : ℕ
STT_TLS = 6

abbrev pub STT_GNU_IFUNC : ℕ
STT_GNU_IFUNC = 10

-- the first of the types whose meaning the operating system or the processor defines
abbrev pub STT_LOOS : ℕ
STT_LOOS = 10

-- symbol visibilities (gABI 4, Symbol Visibility)
abbrev pub STV_DEFAULT : ℕ
STV_DEFAULT = 0

abbrev pub STV_PROTECTED : ℕ
STV_PROTECTED = 3

-- the relocation type of x86-64 that stores nothing (x86-64 psABI, Relocation Types)
abbrev pub R_X86_64_NONE : ℕ
R_X86_64_NONE = 0

-- those of relative relocations, and of values that a function returns
abbrev pub R_X86_64_RELATIVE : ℕ
R_X86_64_RELATIVE = 8

abbrev pub R_X86_64_COPY : ℕ
R_X86_64_COPY = 5

abbrev pub R_X86_64_IRELATIVE : ℕ
R_X86_64_IRELATIVE = 37

-- the marks of extended numbering: the program headers' number, and the section of the section
-- names
abbrev pub PN_XNUM : ℕ
PN_XNUM = 0xffff

abbrev pub SHN_XINDEX : ℕ
SHN_XINDEX = 0xffff
