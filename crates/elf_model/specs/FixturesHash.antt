-- Files with a hash table to look names up in.
use Rattle.std.specs.Prelude.{ℕ, ◌+◌, List, [], ◌∷◌, ◌++◌, flat_map}
use Rattle.elf_model.specs.Bytes.{little}
use Rattle.elf_model.specs.Fixtures.{zeros, with_bytes, file_header, section_header, symbol}

-- words of four bytes
unfoldable pub words : List ℕ → List ℕ
words numbers = flat_map (λ n. little 4 n) numbers

-- a file with a hash table of six words, at 0x40, and the symbols `a` and `b`, at 0x58; the section
-- headers of the hash table, the symbol table and the string table are at 0xe8, 0x128 and 0x168
unfoldable pub hash_file : List ℕ → List ℕ
hash_file numbers =
    file_header 3 0xa8 4 0
    ++ words numbers
    ++ symbol 0 0 0 0 0 ++ symbol 1 0x12 0xfff1 0x10 0 ++ symbol 3 0x12 0xfff1 0x20 0
    ++ (0 ∷ 97 ∷ 0 ∷ 98 ∷ 0 ∷ []) ++ zeros 3
    ++ zeros 64
    ++ section_header 5 0 0x40 0x18 2 0 0 4
    ++ section_header 11 0 0x58 0x48 3 1 0 24
    ++ section_header 3 0 0xa0 5 0 0 0 0

-- one bucket, whose chain goes from symbol 1 to symbol 2 and back
unfoldable pub hash_with_cycle : List ℕ
hash_with_cycle = hash_file (1 ∷ 3 ∷ 1 ∷ 0 ∷ 2 ∷ 1 ∷ [])

-- one bucket, whose chain goes from symbol 1 to symbol 2 and ends
unfoldable pub hash_with_end : List ℕ
hash_with_end = hash_file (1 ∷ 3 ∷ 1 ∷ 0 ∷ 2 ∷ 0 ∷ [])

-- the hash table with other bytes in its section header, at an offset in it
unfoldable pub with_hash_header : ℕ → List ℕ → List ℕ
with_hash_header place bytes = with_bytes (0xe8 + place) bytes hash_with_cycle

-- the hash table's file with other bytes in the header of the symbol table
unfoldable pub with_symbols_header : ℕ → List ℕ → List ℕ
with_symbols_header place bytes = with_bytes (0x128 + place) bytes hash_with_cycle

-- the hash table's file with other bytes in the header of the string table
unfoldable pub with_strings_header : ℕ → List ℕ → List ℕ
with_strings_header place bytes = with_bytes (0x168 + place) bytes hash_with_cycle
