-- The numbers that say how a file is hardened.
use Rattle.std.specs.Prelude.{ℕ, ◌==◌, ◌||◌, Bool}
use Rattle.std.specs.Int.RustNames.{bit_and}

-- types of files (gABI 4, ELF Header)
abbrev pub ET_EXEC : ℕ
ET_EXEC = 2

abbrev pub ET_DYN : ℕ
ET_DYN = 3

abbrev pub ET_CORE : ℕ
ET_CORE = 4

-- a loader links files of a type
abbrev pub is_linked_type : ℕ → Bool
is_linked_type type = type == ET_EXEC || type == ET_DYN

-- the machine of i386 (gABI 4, ELF Header)
abbrev pub EM_386 : ℕ
EM_386 = 3

-- the flag of a section with instructions (gABI 4, Section Attribute Flags)
abbrev pub SHF_EXECINSTR : ℕ
SHF_EXECINSTR = 0x4

-- the segment that names an interpreter (gABI 5, Program Interpreter)
abbrev pub PT_INTERP : ℕ
PT_INTERP = 3

-- GNU segments: the permissions of the stack; what is read-only after relocation (Linux Standard
-- Base Core, Program Header)
abbrev pub PT_GNU_STACK : ℕ
PT_GNU_STACK = 0x6474e551

abbrev pub PT_GNU_RELRO : ℕ
PT_GNU_RELRO = 0x6474e552

-- permissions of a segment (gABI 5, Segment Permissions)
abbrev pub PF_X : ℕ
PF_X = 0x1

abbrev pub PF_W : ℕ
PF_W = 0x2

-- dynamic array tags (gABI 5, Dynamic Section): relocations change a segment that is not writable;
-- all is bound before the program starts; flags
abbrev pub DT_TEXTREL : ℕ
DT_TEXTREL = 22

abbrev pub DT_BIND_NOW : ℕ
DT_BIND_NOW = 24

abbrev pub DT_FLAGS : ℕ
DT_FLAGS = 30

-- further GNU flags
abbrev pub DT_FLAGS_1 : ℕ
DT_FLAGS_1 = 0x6ffffffb

-- flags of DT_FLAGS that say the same as the two tags (gABI 5, DT_FLAGS)
abbrev pub DF_TEXTREL : ℕ
DF_TEXTREL = 0x4

abbrev pub DF_BIND_NOW : ℕ
DF_BIND_NOW = 0x8

-- flags of DT_FLAGS_1: all is bound before the program starts; the file is a program, not a library
abbrev pub DF_1_NOW : ℕ
DF_1_NOW = 0x1

abbrev pub DF_1_PIE : ℕ
DF_1_PIE = 0x8000000

-- a number has all bits of another
abbrev pub has_bits : ℕ → ℕ → Bool
has_bits flags bits = bit_and flags bits == bits
