-- The fields of the records, each by its offset. A record is at an offset `at` of some bytes: of
-- the whole file, or of its own bytes alone, at 0. The file header is at the file's first byte.
use Rattle.std.specs.Prelude.{ℕ, ℤ, pos, negsuc, ◌+◌, ◌-◌, ◌*◌, ◌/◌, ◌%◌, ◌^◌, ◌==◌, nat_lt, if◌then◌else◌, Bool, List}
use Rattle.elf_model.specs.Bytes.{field}

-- the size of the file header, of a section header and of a program header, in bytes
abbrev pub FILE_HEADER_SIZE : ℕ
FILE_HEADER_SIZE = 64

abbrev pub SECTION_HEADER_SIZE : ℕ
SECTION_HEADER_SIZE = 64

abbrev pub PROGRAM_HEADER_SIZE : ℕ
PROGRAM_HEADER_SIZE = 56

-- how many bytes the magic number of ELF has, and the number: 0x7f and `ELF`
abbrev pub ELF_MAGIC_SIZE : ℕ
ELF_MAGIC_SIZE = 4

abbrev pub ELF_MAGIC : ℕ
ELF_MAGIC = 0x464c457f

-- A FILE BEGINS AS AN ELF FILE: with the magic number (gABI 4, ELF Identification)
abbrev pub has_elf_magic : List ℕ → Bool
has_elf_magic file = field file 0 ELF_MAGIC_SIZE == ELF_MAGIC

-- The file header (gABI 4, ELF Header).
abbrev pub e_type : List ℕ → ℕ
e_type file = field file 16 2

abbrev pub e_machine : List ℕ → ℕ
e_machine file = field file 18 2

abbrev pub e_entry : List ℕ → ℕ
e_entry file = field file 24 8

abbrev pub e_phoff : List ℕ → ℕ
e_phoff file = field file 32 8

abbrev pub e_shoff : List ℕ → ℕ
e_shoff file = field file 40 8

abbrev pub e_flags : List ℕ → ℕ
e_flags file = field file 48 4

abbrev pub e_phentsize : List ℕ → ℕ
e_phentsize file = field file 54 2

abbrev pub e_phnum : List ℕ → ℕ
e_phnum file = field file 56 2

abbrev pub e_shentsize : List ℕ → ℕ
e_shentsize file = field file 58 2

abbrev pub e_shnum : List ℕ → ℕ
e_shnum file = field file 60 2

abbrev pub e_shstrndx : List ℕ → ℕ
e_shstrndx file = field file 62 2

-- A section header, 64 bytes (gABI 4, Section Header).
abbrev pub sh_name : List ℕ → ℕ → ℕ
sh_name bytes at = field bytes at 4

abbrev pub sh_type : List ℕ → ℕ → ℕ
sh_type bytes at = field bytes (at + 4) 4

abbrev pub sh_flags : List ℕ → ℕ → ℕ
sh_flags bytes at = field bytes (at + 8) 8

abbrev pub sh_addr : List ℕ → ℕ → ℕ
sh_addr bytes at = field bytes (at + 16) 8

abbrev pub sh_offset : List ℕ → ℕ → ℕ
sh_offset bytes at = field bytes (at + 24) 8

abbrev pub sh_size : List ℕ → ℕ → ℕ
sh_size bytes at = field bytes (at + 32) 8

abbrev pub sh_link : List ℕ → ℕ → ℕ
sh_link bytes at = field bytes (at + 40) 4

abbrev pub sh_info : List ℕ → ℕ → ℕ
sh_info bytes at = field bytes (at + 44) 4

abbrev pub sh_addralign : List ℕ → ℕ → ℕ
sh_addralign bytes at = field bytes (at + 48) 8

abbrev pub sh_entsize : List ℕ → ℕ → ℕ
sh_entsize bytes at = field bytes (at + 56) 8

-- A program header, 56 bytes (gABI 5, Program Header).
abbrev pub p_type : List ℕ → ℕ → ℕ
p_type bytes at = field bytes at 4

abbrev pub p_flags : List ℕ → ℕ → ℕ
p_flags bytes at = field bytes (at + 4) 4

abbrev pub p_offset : List ℕ → ℕ → ℕ
p_offset bytes at = field bytes (at + 8) 8

abbrev pub p_vaddr : List ℕ → ℕ → ℕ
p_vaddr bytes at = field bytes (at + 16) 8

abbrev pub p_paddr : List ℕ → ℕ → ℕ
p_paddr bytes at = field bytes (at + 24) 8

abbrev pub p_filesz : List ℕ → ℕ → ℕ
p_filesz bytes at = field bytes (at + 32) 8

abbrev pub p_memsz : List ℕ → ℕ → ℕ
p_memsz bytes at = field bytes (at + 40) 8

abbrev pub p_align : List ℕ → ℕ → ℕ
p_align bytes at = field bytes (at + 48) 8

-- A symbol, 24 bytes (gABI 4, Symbol Table).
abbrev pub st_name : List ℕ → ℕ → ℕ
st_name bytes at = field bytes at 4

abbrev pub st_info : List ℕ → ℕ → ℕ
st_info bytes at = field bytes (at + 4) 1

abbrev pub st_other : List ℕ → ℕ → ℕ
st_other bytes at = field bytes (at + 5) 1

abbrev pub st_shndx : List ℕ → ℕ → ℕ
st_shndx bytes at = field bytes (at + 6) 2

abbrev pub st_value : List ℕ → ℕ → ℕ
st_value bytes at = field bytes (at + 8) 8

abbrev pub st_size : List ℕ → ℕ → ℕ
st_size bytes at = field bytes (at + 16) 8

-- the high four bits of st_info
abbrev pub st_bind : List ℕ → ℕ → ℕ
st_bind bytes at = st_info bytes at / 16

-- the low four bits of st_info
abbrev pub st_type : List ℕ → ℕ → ℕ
st_type bytes at = st_info bytes at % 16

-- the low two bits of st_other
abbrev pub st_visibility : List ℕ → ℕ → ℕ
st_visibility bytes at = st_other bytes at % 4

-- A relocation entry, 24 bytes with an addend and 16 without (gABI 4, Relocation). The addend is a
-- number below 2^64.
abbrev pub r_offset : List ℕ → ℕ → ℕ
r_offset bytes at = field bytes at 8

abbrev pub r_info : List ℕ → ℕ → ℕ
r_info bytes at = field bytes (at + 8) 8

abbrev pub r_addend : List ℕ → ℕ → ℕ
r_addend bytes at = field bytes (at + 16) 8

-- the high 32 bits of r_info
abbrev pub r_sym : List ℕ → ℕ → ℕ
r_sym bytes at = r_info bytes at / 2 ^ 32

-- the low 32 bits of r_info
abbrev pub r_type : List ℕ → ℕ → ℕ
r_type bytes at = r_info bytes at % 2 ^ 32

-- A word of a table of relative relocations, 8 bytes (gABI 4, Relative Relocation Table).
abbrev pub relr_word : List ℕ → ℕ → ℕ
relr_word bytes at = field bytes at 8

-- the number that 64 bits are in two's complement
abbrev pub twos_complement : ℕ → ℤ
twos_complement n = if nat_lt n (2 ^ 63) then pos n else negsuc (2 ^ 64 - 1 - n)

-- A dynamic entry, 16 bytes (gABI 5, Dynamic Section). The tag is a number below 2^64.
abbrev pub d_tag : List ℕ → ℕ → ℕ
d_tag bytes at = field bytes at 8

abbrev pub d_un : List ℕ → ℕ → ℕ
d_un bytes at = field bytes (at + 8) 8

-- A note header, 12 bytes: three words of four bytes, as the usual tools write it (gABI 5, Note
-- Section, whose words have eight bytes in 64-bit files).
abbrev pub n_namesz : List ℕ → ℕ → ℕ
n_namesz bytes at = field bytes at 4

abbrev pub n_descsz : List ℕ → ℕ → ℕ
n_descsz bytes at = field bytes (at + 4) 4

abbrev pub n_type : List ℕ → ℕ → ℕ
n_type bytes at = field bytes (at + 8) 4

-- A version definition, 20 bytes (Linux Standard Base Core, Symbol Versioning).
abbrev pub vd_version : List ℕ → ℕ → ℕ
vd_version bytes at = field bytes at 2

abbrev pub vd_flags : List ℕ → ℕ → ℕ
vd_flags bytes at = field bytes (at + 2) 2

abbrev pub vd_ndx : List ℕ → ℕ → ℕ
vd_ndx bytes at = field bytes (at + 4) 2

abbrev pub vd_hash : List ℕ → ℕ → ℕ
vd_hash bytes at = field bytes (at + 8) 4

abbrev pub vd_aux : List ℕ → ℕ → ℕ
vd_aux bytes at = field bytes (at + 12) 4

abbrev pub vd_next : List ℕ → ℕ → ℕ
vd_next bytes at = field bytes (at + 16) 4

-- A name of a version definition, 8 bytes (Linux Standard Base Core, Symbol Versioning).
abbrev pub vda_name : List ℕ → ℕ → ℕ
vda_name bytes at = field bytes at 4

-- A file whose versions are needed, 16 bytes (Linux Standard Base Core, Symbol Versioning).
abbrev pub vn_version : List ℕ → ℕ → ℕ
vn_version bytes at = field bytes at 2

abbrev pub vn_file : List ℕ → ℕ → ℕ
vn_file bytes at = field bytes (at + 4) 4

abbrev pub vn_aux : List ℕ → ℕ → ℕ
vn_aux bytes at = field bytes (at + 8) 4

abbrev pub vn_next : List ℕ → ℕ → ℕ
vn_next bytes at = field bytes (at + 12) 4

-- A version that is needed of it, 16 bytes (Linux Standard Base Core, Symbol Versioning).
abbrev pub vna_hash : List ℕ → ℕ → ℕ
vna_hash bytes at = field bytes at 4

abbrev pub vna_flags : List ℕ → ℕ → ℕ
vna_flags bytes at = field bytes (at + 4) 2

abbrev pub vna_other : List ℕ → ℕ → ℕ
vna_other bytes at = field bytes (at + 6) 2

abbrev pub vna_name : List ℕ → ℕ → ℕ
vna_name bytes at = field bytes (at + 8) 4

abbrev pub vna_next : List ℕ → ℕ → ℕ
vna_next bytes at = field bytes (at + 12) 4

-- The versym entry of a symbol, 2 bytes (Linux Standard Base Core, Symbol Versioning).
abbrev pub versym : List ℕ → ℕ → ℕ
versym bytes at = field bytes at 2

-- the offset of a section header in the file
abbrev pub section_at : List ℕ → ℕ → ℕ
section_at file i = e_shoff file + SECTION_HEADER_SIZE * i

-- the offset of a program header in the file
abbrev pub segment_at : List ℕ → ℕ → ℕ
segment_at file i = e_phoff file + PROGRAM_HEADER_SIZE * i
