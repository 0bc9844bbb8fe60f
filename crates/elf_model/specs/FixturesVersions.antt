-- A small library with symbol versions: two of a function, and one that it needs of another
-- library.
use Rattle.std.specs.Prelude.{ℕ, List, [], ◌∷◌, ◌++◌, codes, flat_map}
use Rattle.elf_model.specs.Bytes.{little}
use Rattle.elf_model.specs.Fixtures.{zeros, with_bytes, file_header, section_header, symbol}
use Rattle.elf_model.specs.FixturesHash.{words}
use Rattle.elf_model.specs.FixturesTables.{program_header, tagged}

-- a section header of a loaded section, whose address is its offset in the file: its type, offset,
-- size, link, info, and the size of an entry
unfoldable pub loaded_section : (type offset size link info entry : ℕ) → List ℕ
loaded_section type offset size link info entry =
    with_bytes 16 (little 8 offset) (section_header type 2 offset size link info 8 entry)

-- a version definition, whose name is 20 bytes after it, and one name of one
unfoldable pub definition : (flags ndx names hash next : ℕ) → List ℕ
definition flags ndx names hash next =
    little 2 1 ++ little 2 flags ++ little 2 ndx ++ little 2 names ++ little 4 hash ++ little 4 20 ++ little 4 next

unfoldable pub defined_name : (name next : ℕ) → List ℕ
defined_name name next = little 4 name ++ little 4 next

-- a file whose versions are needed, and one of these
unfoldable pub needed_file : (count file aux next : ℕ) → List ℕ
needed_file count file aux next = little 2 1 ++ little 2 count ++ little 4 file ++ little 4 aux ++ little 4 next

unfoldable pub needed_version : (hash flags other name next : ℕ) → List ℕ
needed_version hash flags other name next =
    little 4 hash ++ little 2 flags ++ little 2 other ++ little 4 name ++ little 4 next

-- numbers of two bytes
unfoldable pub halfwords : List ℕ → List ℕ
halfwords numbers = flat_map (λ n. little 2 n) numbers

-- the header of a library with two program headers after it: the offset of its section headers, and
-- their number
unfoldable pub library_header : (shoff shnum : ℕ) → List ℕ
library_header shoff shnum =
    with_bytes 0x14 (little 4 1)
    (with_bytes 0x20 (little 8 0x40)
    (with_bytes 0x34 (little 2 64 ++ little 2 56 ++ little 2 2) (file_header 3 shoff shnum 0)))

-- what follows that header up to 0x2f0: the program headers, 0x40; the GNU hash table, 0xb0; the
-- symbols, 0xe0; their strings, 0x170; their versions, 0x1a0; the definitions, 0x1b0; the needs,
-- 0x210; the dynamic entries, 0x230
unfoldable pub versioned_segments : List ℕ
versioned_segments = program_header 1 6 0 0 0x2f0 0x1000 ++ program_header 2 6 0x230 0x230 0xc0 8

unfoldable pub versioned_hash : List ℕ
versioned_hash =
    words (2 ∷ 2 ∷ 1 ∷ 6 ∷ []) ++ little 8 0x01003800 ++ words (2 ∷ 3 ∷ 0x2b60d ∷ 0x2b60a ∷ 0x2b60a ∷ 0x2b60d ∷ [])

unfoldable pub symbols_with_versions : List ℕ
symbols_with_versions =
    symbol 0 0 0 0 0 ++ symbol 1 0x12 0 0 0 ++ symbol 6 0xa1 7 0x2a0 8 ++ symbol 8 0x12 7 0x2a8 1 ++ symbol 8 0x12 7 0x2a9 1
    ++ symbol 10 0x1a 7 0x2aa 1

unfoldable pub versioned_strings : List ℕ
versioned_strings =
    zeros 1 ++ codes "puts" ++ zeros 1 ++ codes "g" ++ zeros 1 ++ codes "f" ++ zeros 1 ++ codes "h" ++ zeros 1
    ++ codes "libc.so.6" ++ zeros 1 ++ codes "GLIBC_2.2.5" ++ zeros 1 ++ codes "libf.so" ++ zeros 1
    ++ codes "V1" ++ zeros 1 ++ codes "V2" ++ zeros 1

unfoldable pub versioned_records : List ℕ
versioned_records =
    halfwords (0 ∷ 4 ∷ 1 ∷ 0x8002 ∷ 3 ∷ 3 ∷ []) ++ zeros 4
    ++ definition 1 1 1 0x02f895ef 28 ++ defined_name 0x22 0
    ++ definition 0 2 1 0x591 28 ++ defined_name 0x2a 0
    ++ definition 0 3 2 0x592 0 ++ defined_name 0x2d 8 ++ defined_name 0x2a 0 ++ zeros 4
    ++ needed_file 1 12 16 0 ++ needed_version 0x09691a75 0 4 0x16 0

unfoldable pub versioned_dynamic : List ℕ
versioned_dynamic =
    tagged 1 12 ++ tagged 14 0x22 ++ tagged 0x6ffffef5 0xb0 ++ tagged 5 0x170 ++ tagged 6 0xe0 ++ tagged 10 0x30
    ++ tagged 0x6ffffff0 0x1a0 ++ tagged 0x6ffffffc 0x1b0 ++ tagged 0x6ffffffd 3 ++ tagged 0x6ffffffe 0x210
    ++ tagged 0x6fffffff 1 ++ tagged 0 0

unfoldable pub versioned_body : List ℕ
versioned_body =
    versioned_segments ++ versioned_hash ++ symbols_with_versions ++ versioned_strings ++ versioned_records ++ versioned_dynamic

-- its section headers, 0x2f0: the hash table, the symbols, their strings, their versions, the
-- definitions, the needs, the dynamic entries
unfoldable pub versioned_sections : List ℕ
versioned_sections =
    zeros 64
    ++ loaded_section 0x6ffffff6 0xb0 0x30 2 0 0 ++ loaded_section 11 0xe0 0x90 3 1 24 ++ loaded_section 3 0x170 0x30 0 0 0
    ++ loaded_section 0x6fffffff 0x1a0 12 2 0 2 ++ loaded_section 0x6ffffffd 0x1b0 0x5c 3 3 0
    ++ loaded_section 0x6ffffffe 0x210 0x20 3 1 0 ++ loaded_section 6 0x230 0xc0 3 0 16

-- a library of 1,264 bytes that defines two versions of `f` and needs one of `puts`
unfoldable pub versioned_library : List ℕ
versioned_library = library_header 0x2f0 8 ++ versioned_body ++ versioned_sections

-- the same without section headers, of 752 bytes
unfoldable pub versioned_without_sections : List ℕ
versioned_without_sections = library_header 0 0 ++ versioned_body

-- the same with section headers, and hostile: a full filter, a chain of symbols that does not end,
-- a definition and a need with a next record, and a symbol whose version no record names
unfoldable pub hostile_library : List ℕ
hostile_library =
    with_bytes 0xc0 (little 8 0xffffffffffffffff)
    (with_bytes 0xd0 (words (0x2b60c ∷ 0x2b60a ∷ 0x2b60a ∷ 0x2b60c ∷ []))
    (with_bytes 0x1f8 (little 4 0xffffffc8)
    (with_bytes 0x22c (little 4 16)
    (with_bytes 0x1aa (little 2 9) versioned_library))))
