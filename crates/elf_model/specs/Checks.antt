-- Checks in their order: the first one that fails is the result. Sums do not wrap.
use Rattle.std.specs.Prelude.{ℕ, ◌+◌, ◌*◌, ◌%◌, ◌^◌, ◌==◌, ◌&&◌, ◌||◌, nat_lt, not, Bool, true, false, List, [], ◌∷◌, ◌++◌, length, if◌then◌else◌, is_none, Option, None, Some}
use Rattle.elf_model.specs.Bytes.{field}
use Rattle.elf_model.specs.Records.{FILE_HEADER_SIZE, SECTION_HEADER_SIZE, PROGRAM_HEADER_SIZE, has_elf_magic, e_phoff, e_shoff, e_phentsize, e_phnum, e_shentsize, e_shnum, e_shstrndx, sh_type, sh_offset, sh_size, sh_link, sh_entsize, section_at}
use Rattle.elf_model.specs.Numbers.{PN_XNUM, SHN_XINDEX, SHT_STRTAB, SHT_SYMTAB, SHT_DYNSYM}
use Rattle.elf_model.specs.declared.causes.Refusal.{Refusal}
use Rattle.elf_model.specs.declared.causes.Cause.{Cause}
use Rattle.elf_model.specs.declared.causes.Cause.TheVariants.{Short, NotElf, BadClass, BadData, BadVersion, TooLong, ExtendedNumbering, TooManyHeaders, EntrySize, TableOutside, BadLink, NotStrings, SizeNotWhole}

-- a check: whether it fails, and the refusal that it then gives
pub record Check : Type 0 where
  pub fails : Bool
  pub refusal : Refusal

-- a check by its condition, and the offset and the cause that it gives
abbrev pub refuse : Bool → ℕ → Cause → Check
refuse fails at cause = record { fails = fails; refusal = record { at = at; cause = cause } }

-- the refusal of the first check that fails
abbrev pub first_refusal : List Check → Option Refusal
first_refusal [] = None
first_refusal (check ∷ checks) = elim check.fails [ true ↦ Some check.refusal | false ↦ first_refusal checks ]

-- all checks pass
abbrev pub pass : List Check → Bool
pass checks = is_none (first_refusal checks)

-- a table of size 0 is not checked, and neither is what it links to
abbrev pub unless_empty : ℕ → List Check → List Check
unless_empty size checks = if size == 0 then [] else checks

-- before anything is read: the file's length
abbrev pub length_checks : ℕ → List Check
length_checks size =
    refuse (not (nat_lt size (2 ^ 63))) size TooLong
    ∷ refuse (nat_lt size FILE_HEADER_SIZE) size Short
    ∷ []

-- the identification: magic number, class, data encoding, version (gABI 4, ELF Identification)
abbrev pub ident_checks : List ℕ → List Check
ident_checks file =
    refuse (not (has_elf_magic file)) 0 NotElf
    ∷ refuse (not (field file 4 1 == 2)) 4 BadClass
    ∷ refuse (not (field file 5 1 == 1)) 5 BadData
    ∷ refuse (not (field file 6 1 == 1)) 6 BadVersion
    ∷ []

-- the file header's checks
abbrev pub header_checks : List ℕ → List Check
header_checks file = length_checks (length file) ++ ident_checks file

-- this many bytes at an offset end past the end of the file
abbrev pub is_outside : ℕ → ℕ → ℕ → Bool
is_outside file_size offset size = nat_lt file_size (offset + size)

-- a section's bytes end past the end of the file
abbrev pub is_section_outside : List ℕ → ℕ → Bool
is_section_outside file at = is_outside (length file) (sh_offset file at) (sh_size file at)

-- the offsets, sizes and numbers of the headers in a file header
pub record HeaderCounts : Type 0 where
  pub phoff : ℕ
  pub shoff : ℕ
  pub phentsize : ℕ
  pub phnum : ℕ
  pub shentsize : ℕ
  pub shnum : ℕ
  pub shstrndx : ℕ

-- before the section headers are read, in a file of this many bytes and with this many headers
-- allowed (gABI 4, ELF Header)
abbrev pub early_checks_of : HeaderCounts → ℕ → ℕ → List Check
early_checks_of e size headers =
    refuse (e.phnum == PN_XNUM) 0x38 ExtendedNumbering
    ∷ refuse (e.shstrndx == SHN_XINDEX) 0x3e ExtendedNumbering
    ∷ refuse (e.shnum == 0 && not (e.shoff == 0)) 0x3c ExtendedNumbering
    ∷ refuse (nat_lt headers e.shnum) 0x3c TooManyHeaders
    ∷ refuse (nat_lt headers e.phnum) 0x38 TooManyHeaders
    ∷ refuse (not (e.shnum == 0) && not (e.shentsize == SECTION_HEADER_SIZE)) 0x3a EntrySize
    ∷ refuse (not (e.phnum == 0) && not (e.phentsize == PROGRAM_HEADER_SIZE)) 0x36 EntrySize
    ∷ refuse (not (e.shnum == 0) && is_outside size e.shoff (SECTION_HEADER_SIZE * e.shnum)) 0x28 TableOutside
    ∷ refuse (not (e.phnum == 0) && is_outside size e.phoff (PROGRAM_HEADER_SIZE * e.phnum)) 0x20 TableOutside
    ∷ refuse (not (e.shnum == 0) && not (nat_lt e.shstrndx e.shnum)) 0x3e BadLink
    ∷ []

-- the counts in a file's header
abbrev pub counts_in : List ℕ → HeaderCounts
counts_in file = record {
  phoff = e_phoff file;
  shoff = e_shoff file;
  phentsize = e_phentsize file;
  phnum = e_phnum file;
  shentsize = e_shentsize file;
  shnum = e_shnum file;
  shstrndx = e_shstrndx file;
}

-- the same of a file
abbrev pub early_checks : List ℕ → ℕ → List Check
early_checks file headers = early_checks_of (counts_in file) (length file) headers

-- all checks before the section headers and the program headers are read
abbrev pub before_headers : List ℕ → ℕ → List Check
before_headers file headers = header_checks file ++ early_checks file headers

-- the file has a section of the section names
abbrev pub has_section_names : List ℕ → Bool
has_section_names file = not (e_shnum file == 0) && not (e_shstrndx file == 0)

-- once the section headers are read: the section of the section names
abbrev pub section_name_checks : List ℕ → List Check
section_name_checks file =
    let at = section_at file (e_shstrndx file) in
    refuse (has_section_names file && not (sh_type file at == SHT_STRTAB)) at NotStrings
    ∷ refuse (has_section_names file && is_section_outside file at) at TableOutside
    ∷ []

-- the load checks
abbrev pub load_checks : List ℕ → ℕ → List Check
load_checks file headers = early_checks file headers ++ section_name_checks file

-- this many bytes at an offset are within a file of this many bytes; the refusal is at a given
-- offset
abbrev pub range_checks_of : ℕ → ℕ → ℕ → ℕ → List Check
range_checks_of file_size offset size place = refuse (is_outside file_size offset size) place TableOutside ∷ []

-- a section's bytes are within the file
abbrev pub range_checks : List ℕ → ℕ → List Check
range_checks file at = range_checks_of (length file) (sh_offset file at) (sh_size file at) at

-- this many bytes at an offset are whole entries of one size, and within the file
abbrev pub whole_checks_of : ℕ → ℕ → ℕ → ℕ → ℕ → List Check
whole_checks_of file_size offset size place entry_size =
    refuse (not (size % entry_size == 0)) place SizeNotWhole ∷ range_checks_of file_size offset size place

-- a section that is a table of entries of one size: its header is at an offset of some bytes, in a
-- file of this many bytes; the refusals are at a given offset
abbrev pub table_checks_of : List ℕ → ℕ → ℕ → ℕ → ℕ → List Check
table_checks_of bytes at file_size place entry_size =
    refuse (not (sh_entsize bytes at == entry_size)) place EntrySize
    ∷ whole_checks_of file_size (sh_offset bytes at) (sh_size bytes at) place entry_size

-- the same of a section header of the file
abbrev pub table_checks : List ℕ → ℕ → ℕ → List Check
table_checks file at entry_size = table_checks_of file at (length file) at entry_size

-- the string table that a section at an offset refers to by its link
abbrev pub strings_checks : List ℕ → ℕ → List Check
strings_checks file at =
    let linked = section_at file (sh_link file at) in
    refuse (sh_link file at == 0 || not (nat_lt (sh_link file at) (e_shnum file))) at BadLink
    ∷ refuse (not (sh_type file linked == SHT_STRTAB)) linked NotStrings
    ∷ refuse (is_section_outside file linked) linked TableOutside
    ∷ []

-- a section is a symbol table
abbrev pub is_symbol_table : List ℕ → ℕ → Bool
is_symbol_table file at = sh_type file at == SHT_SYMTAB || sh_type file at == SHT_DYNSYM
