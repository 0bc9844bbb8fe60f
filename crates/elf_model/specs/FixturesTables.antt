-- Files with a table of each kind.
use Rattle.std.specs.Prelude.{ℕ, zero, suc, ◌+◌, ◌^◌, List, [], ◌∷◌, ◌++◌, length, codes}
use Rattle.elf_model.specs.Bytes.{little}
use Rattle.elf_model.specs.Fixtures.{zeros, with_bytes, file_header, section_header, symbol, one_symbol_table}

-- this many numbers, starting at a first one
unfoldable pub numbers_from : ℕ → ℕ → List ℕ
numbers_from first zero = []
numbers_from first (suc count) = first ∷ numbers_from (suc first) count

-- three symbol tables over the section headers, and a string table over them too
unfoldable pub tables_over_headers : List ℕ
tables_over_headers =
    file_header 1 0x40 5 0
    ++ zeros 64
    ++ section_header 2 0 0x40 288 4 0 8 24
    ++ section_header 2 0 0x40 288 4 0 8 24
    ++ section_header 2 0 0x40 288 4 0 8 24
    ++ section_header 3 0 0x40 320 0 0 0 0

-- a file whose section 1 has some bytes, at 0x40, and links to section 2, a string table of some
-- bytes after them: the type of section 1, its alignment and the size of an entry
unfoldable pub one_table : ℕ → ℕ → ℕ → List ℕ → List ℕ → List ℕ
one_table type align entry bytes strings =
    file_header 1 (0x40 + length bytes + length strings) 3 0
    ++ bytes ++ strings
    ++ zeros 64
    ++ section_header type 0 0x40 (length bytes) 2 0 align entry
    ++ section_header 3 0 (0x40 + length bytes) (length strings) 0 0 0 0

-- a program header: type, flags, offset, virtual and physical address, size in the file and in
-- memory, alignment
unfoldable pub program_header : ℕ → ℕ → ℕ → ℕ → ℕ → ℕ → List ℕ
program_header type flags offset address size align =
    little 4 type ++ little 4 flags ++ little 8 offset ++ little 8 address ++ little 8 address
    ++ little 8 size ++ little 8 size ++ little 8 align

-- an executable file without sections: one program header, at 0x40, and some bytes after it, at
-- 0x78
unfoldable pub one_segment : List ℕ → List ℕ → List ℕ
one_segment header bytes =
    with_bytes 0x36 (little 2 56 ++ little 2 1) (with_bytes 0x20 (little 8 0x40) (file_header 2 0 0 0))
    ++ header ++ bytes

-- a file of 120 bytes with one segment to load
unfoldable pub one_load : List ℕ
one_load = one_segment (program_header 1 5 0 0x400000 0x78 0x1000) []

-- a note: its name, its descriptor and its type, with no bytes between them
unfoldable pub plain_note : List ℕ → List ℕ → ℕ → List ℕ
plain_note name descriptor type =
    little 4 (length name) ++ little 4 (length descriptor) ++ little 4 type ++ name ++ descriptor

-- a note with a name of four bytes and a descriptor of 20
unfoldable pub build_note : List ℕ
build_note = plain_note (codes "GNU" ++ zeros 1) (numbers_from 0 20) 3

-- a file of 140 bytes with one segment of notes
unfoldable pub note_segment : List ℕ
note_segment = one_segment (program_header 4 0 0x78 0 20 4) (plain_note (codes "GNU" ++ zeros 1) (0x2a ∷ 0 ∷ 0 ∷ 0 ∷ []) 1)

-- 28 bytes with a note whose descriptor is at an alignment of 8
unfoldable pub aligned_note : List ℕ
aligned_note = little 4 5 ++ little 4 4 ++ little 4 1 ++ codes "ABCD" ++ zeros 8 ++ (1 ∷ 2 ∷ 3 ∷ 4 ∷ [])

-- a dynamic entry: its tag and its value
unfoldable pub tagged : ℕ → ℕ → List ℕ
tagged tag value = little 8 tag ++ little 8 value

-- three dynamic entries: a needed library, the end, and an entry after it
unfoldable pub needed_library : List ℕ
needed_library = one_table 6 8 16 (tagged 1 1 ++ tagged 0 0 ++ tagged 1 99) (0 ∷ codes "libc.so.6" ++ zeros 1)

-- five dynamic entries: two with the same tag, and one after the end
unfoldable pub repeated_tags : List ℕ
repeated_tags = tagged 1 1 ++ tagged 5 2 ++ tagged 5 3 ++ tagged 0 4 ++ tagged 10 5

-- one symbol table, whose string table is also that of the section names: section 1 is named `main`
unfoldable pub named_section : List ℕ
named_section = with_bytes 0xb8 (little 4 1) (with_bytes 62 (little 2 2) one_symbol_table)

-- symbols in special and other sections, the last with an info and an other byte that have no names
unfoldable pub special_places : List ℕ
special_places =
    one_table 2 8 24
    (symbol 0 0 0 0 0 ++ symbol 0 0 1 0 0 ++ symbol 0 0x24 0xfff1 0 0 ++ symbol 0 0x16 0xfff2 0 0
    ++ with_bytes 5 (3 ∷ []) (symbol 0 0x9d 0xff05 0 0))
    []

-- one symbol whose name has a backslash and a byte that is no character
unfoldable pub odd_name : List ℕ
odd_name = one_table 2 8 24 (symbol 1 0 0 0 0) (0 ∷ 97 ∷ 92 ∷ 98 ∷ 7 ∷ 0 ∷ [])

-- relocation entries without a link, where section 0 is a symbol table of this many bytes, with
-- entries of a given size: two symbols, at 0x40, the second named `g`, one entry for it, at 0x70,
-- and the section headers, at 0x8b
unfoldable pub linked_to_first : ℕ → ℕ → List ℕ
linked_to_first size entry =
    file_header 1 0x8b 3 0
    ++ symbol 0 0 0 0 0 ++ symbol 1 0x10 0 0 0
    ++ little 8 0 ++ little 8 0x10000000a ++ little 8 (2 ^ 63)
    ++ (0 ∷ codes "g" ++ zeros 1)
    ++ section_header 2 0 0x40 size 2 0 8 entry
    ++ section_header 4 0 0x70 24 0 0 8 24
    ++ section_header 3 0 0x88 3 0 0 1 0
