-- Relocatable files to apply.
use Rattle.std.specs.Prelude.{ℕ, ◌+◌, ◌-◌, ◌^◌, List, [], ◌∷◌, ◌++◌, length, codes}
use Rattle.elf_model.specs.Bytes.{little}
use Rattle.elf_model.specs.Fixtures.{zeros, with_bytes, file_header, section_header, symbol}
use Rattle.elf_model.specs.Placing.{Layout, Compared}

-- a relocation entry: offset, info, addend below 2^64
unfoldable pub relocation : ℕ → ℕ → ℕ → List ℕ
relocation offset info addend = little 8 offset ++ little 8 info ++ little 8 addend

-- a file with a section of bytes, section 1, and relocation entries for it without symbols, section
-- 2
unfoldable pub relocated : List ℕ → List ℕ → List ℕ
relocated bytes entries =
    file_header 1 (0x40 + length bytes + length entries) 3 0
    ++ bytes ++ entries
    ++ zeros 64
    ++ section_header 1 6 0x40 (length bytes) 0 0 0 0
    ++ section_header 4 0x40 (0x40 + length bytes) (length entries) 0 1 0 24

-- R_X86_64_32 at 0 and R_X86_64_16 at 2, in eight zero bytes
unfoldable pub overlapping_relocations : List ℕ
overlapping_relocations = relocated (zeros 8) (relocation 0 10 0x11223344 ++ relocation 2 12 0xffff)

-- the same two in the other order
unfoldable pub overlapping_in_other_order : List ℕ
overlapping_in_other_order = relocated (zeros 8) (relocation 2 12 0xffff ++ relocation 0 10 0x11223344)

-- and with a third entry, at 0x78, that does not fit
unfoldable pub third_overflows : List ℕ
third_overflows =
    relocated (zeros 8) (relocation 0 10 0x11223344 ++ relocation 2 12 0xffff ++ relocation 4 10 (2 ^ 64 - 1))

-- four entries of R_X86_64_16 in 128 zero bytes, whose offsets ascend
unfoldable pub rising_relocations : List ℕ
rising_relocations =
    relocated (zeros 128)
    (relocation 0 12 0x0102 ++ relocation 62 12 0x0304 ++ relocation 63 12 0x0506 ++ relocation 126 12 0x0708)

-- the same four, the last two in the other order
unfoldable pub falling_relocations : List ℕ
falling_relocations =
    relocated (zeros 128)
    (relocation 0 12 0x0102 ++ relocation 62 12 0x0304 ++ relocation 126 12 0x0708 ++ relocation 63 12 0x0506)

-- a call to `f`, which is not defined: section 1 with the call, its R_X86_64_PLT32 entry at 0x48,
-- `f`'s symbol at 0x78; the section headers of the entries, the symbols and the strings are at
-- 0x118, 0x158 and 0x198
unfoldable pub one_call : List ℕ
one_call =
    file_header 1 0x98 5 0
    ++ (0xe8 ∷ 0 ∷ 0 ∷ 0 ∷ 0 ∷ []) ++ zeros 3
    ++ relocation 1 0x100000004 (2 ^ 64 - 4)
    ++ symbol 0 0 0 0 0 ++ symbol 1 0x10 0 0 0
    ++ (0 ∷ 102 ∷ 0 ∷ []) ++ zeros 5
    ++ zeros 64
    ++ section_header 1 6 0x40 5 0 0 0 0
    ++ section_header 4 0x40 0x48 0x18 3 1 0 24
    ++ section_header 2 0 0x60 0x30 4 1 0 24
    ++ section_header 3 0 0x90 3 0 0 0 0

-- two sections of relocation entries for section 1: the first has one entry of a type, at 0x48, the
-- second, whose header is at 0x138, has entries of a size
unfoldable pub two_relocation_sections : ℕ → ℕ → List ℕ
two_relocation_sections type entry =
    file_header 1 0x78 4 0
    ++ zeros 8 ++ relocation 0 type 1 ++ relocation 0 10 2
    ++ zeros 64
    ++ section_header 1 6 0x40 8 0 0 0 0
    ++ section_header 4 0x40 0x48 0x18 0 1 0 24
    ++ section_header 4 0x40 0x60 0x18 0 1 0 entry

-- the call with other bytes in its symbol, at an offset in it
unfoldable pub with_symbol : ℕ → List ℕ → List ℕ
with_symbol place bytes = with_bytes (0x78 + place) bytes one_call

-- the call with other bytes in the section header of its entry
unfoldable pub with_entries_header : ℕ → List ℕ → List ℕ
with_entries_header place bytes = with_bytes (0x118 + place) bytes one_call

-- the call with the symbol table in the place of section 0, and its entry linked to that
unfoldable pub linked_to_zero : List ℕ
linked_to_zero = with_bytes 0x98 (section_header 2 0 0x60 0x30 4 1 0 24) (with_entries_header 40 (little 4 0))

-- no section, no definition and no procedure linkage table entry has an address
unfoldable pub empty_layout : Layout
empty_layout = record { lookup = Compared; sections = []; definitions = []; linkage = []; table = []; thread = [] }

-- section 1 at 0x1000
unfoldable pub placed_layout : Layout
placed_layout = record { lookup = Compared; sections = (1, 0x1000) ∷ []; definitions = []; linkage = []; table = []; thread = [] }

-- section 1 at 0x1000, and a definition of `f`
unfoldable pub defined_layout : Layout
defined_layout = record { lookup = Compared; sections = (1, 0x1000) ∷ []; definitions = (codes "f", 0x3000) ∷ []; linkage = []; table = []; thread = [] }

-- section 1 at 0x1000, and a procedure linkage table entry of `f`
unfoldable pub entry_layout : Layout
entry_layout = record { lookup = Compared; sections = (1, 0x1000) ∷ []; definitions = []; linkage = (codes "f", 0x2000) ∷ []; table = []; thread = [] }

-- a procedure linkage table entry of `f` alone
unfoldable pub unplaced_layout : Layout
unplaced_layout = record { lookup = Compared; sections = []; definitions = []; linkage = (codes "f", 0x2000) ∷ []; table = []; thread = [] }

-- sections 1 and 0xff05 at 0x1000
unfoldable pub special_layout : Layout
special_layout = record { lookup = Compared; sections = (1, 0x1000) ∷ (0xff05, 0x1000) ∷ []; definitions = []; linkage = []; table = []; thread = [] }

-- a definition and a procedure linkage table entry of `f`
unfoldable pub full_layout : Layout
full_layout =
    record {
      lookup = Compared;
      sections = (1, 0x1000) ∷ [];
      definitions = (codes "f", 0x3000) ∷ [];
      linkage = (codes "f", 0x2000) ∷ [];
      table = [];
      thread = [];
    }

-- section 1 at 0x1000, and two global offset table entries of `f`: that of its address, and that of
-- its offset from the thread pointer
unfoldable pub table_layout : Layout
table_layout =
    record {
      lookup = Compared;
      sections = (1, 0x1000) ∷ [];
      definitions = [];
      linkage = [];
      table = (codes "f", 0x4000) ∷ [];
      thread = (codes "f", 0x5000) ∷ [];
    }
