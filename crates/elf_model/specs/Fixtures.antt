-- Files to compute on, by their fields.
use Rattle.std.specs.Prelude.{ℕ, ◌+◌, ◌==◌, if◌then◌else◌, List, [], ◌∷◌, ◌++◌, length, take, drop, replicate, codes}
use Rattle.elf_model.specs.Bytes.{little}

-- this many zero bytes
unfoldable pub zeros : ℕ → List ℕ
zeros n = replicate n 0

-- a file with other bytes at an offset
unfoldable pub with_bytes : ℕ → List ℕ → List ℕ → List ℕ
with_bytes at bytes file = take at file ++ bytes ++ drop (at + length bytes) file

-- a file header for x86-64 without program headers: its type, the offset of the section headers,
-- their number, and the section of the section names
unfoldable pub file_header : ℕ → ℕ → ℕ → ℕ → List ℕ
file_header type shoff shnum shstrndx =
    (127 ∷ 69 ∷ 76 ∷ 70 ∷ 2 ∷ 1 ∷ 1 ∷ []) ++ zeros 9
    ++ little 2 type ++ little 2 62 ++ zeros 4 ++ zeros 8 ++ zeros 8 ++ little 8 shoff
    ++ zeros 4 ++ zeros 2 ++ zeros 2 ++ zeros 2 ++ little 2 (if shnum == 0 then 0 else 64)
    ++ little 2 shnum ++ little 2 shstrndx

-- a section header: type, flags, offset, size, link, info, alignment, size of an entry; its name
-- and address are 0
unfoldable pub section_header : ℕ → ℕ → ℕ → ℕ → ℕ → ℕ → ℕ → ℕ → List ℕ
section_header type flags offset size link info align entry =
    little 4 0 ++ little 4 type ++ little 8 flags ++ zeros 8 ++ little 8 offset ++ little 8 size
    ++ little 4 link ++ little 4 info ++ little 8 align ++ little 8 entry

-- a symbol: name, info, section index, value, size; its other byte is 0
unfoldable pub symbol : ℕ → ℕ → ℕ → ℕ → ℕ → List ℕ
symbol name info shndx value size =
    little 4 name ++ little 1 info ++ zeros 1 ++ little 2 shndx ++ little 8 value ++ little 8 size

-- a relocatable file's header and nothing else
unfoldable pub bare_header : List ℕ
bare_header = file_header 1 0 0 0

-- one symbol table of two symbols, the second named `main`
unfoldable pub one_symbol_table : List ℕ
one_symbol_table =
    file_header 1 0x78 3 0
    ++ symbol 0 0 0 0 0 ++ symbol 1 0x12 0xfff1 0x1000 0x10
    ++ (0 ∷ codes "main") ++ zeros 3
    ++ zeros 64
    ++ section_header 2 0 0x40 0x30 2 1 8 24
    ++ section_header 3 0 0x70 6 0 0 1 0
