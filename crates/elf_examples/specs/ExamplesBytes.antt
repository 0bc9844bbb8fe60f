-- Worked examples of the bytes of sections and of program headers.
use Rattle.std.specs.Prelude.{◌≡◌, ℕ, ◌+◌, ◌*◌, List, [], ◌∷◌, ◌++◌, codes, replicate}
use Rattle.elf_model.specs.Prelude.{BytesQuery, OfName, OfSection, OfSegment, bytes_answer, bytes_ceiling, bytes_cost, little, named_section, one_load, one_symbol_table, symbol, with_bytes, zeros}

-- the bytes of a file are written, with three headers allowed and status 0
abbrev pub BytesAre : List ℕ → BytesQuery → List ℕ → Type 0
BytesAre file query bytes = bytes_answer file 3 query ≡ record { text = bytes; status = 0 }

-- they are refused with a line, and status 1
abbrev pub RefusesBytes : List ℕ → BytesQuery → List ℕ → Type 0
RefusesBytes file query line = bytes_answer file 3 query ≡ record { text = line; status = 1 }

-- nothing is written, with status 1: there is no section of a name
abbrev pub HasNoSection : List ℕ → List ℕ → Type 0
HasNoSection file name = bytes_answer file 3 (OfName name) ≡ record { text = []; status = 1 }

-- the bytes of a section by its index, also of one that is compressed
abbrev pub SectionsAreWritten : Type 0
SectionsAreWritten =
    BytesAre one_symbol_table (OfSection 2) (0 ∷ codes "main" ++ zeros 1)
    × BytesAre one_symbol_table (OfSection 1) (symbol 0 0 0 0 0 ++ symbol 1 0x12 0xfff1 0x1000 0x10)
    × BytesAre (with_bytes 0x100 (little 8 0x800) one_symbol_table) (OfSection 2) (0 ∷ codes "main" ++ zeros 1)

-- a section of the type NOBITS or NULL has none, at any offset
abbrev pub NoBytesAreWritten : Type 0
NoBytesAreWritten =
    BytesAre (with_bytes 0xbc (little 4 8) (with_bytes 0xd0 (little 8 0x1000) one_symbol_table)) (OfSection 1) []
    × BytesAre (with_bytes 0xbc (little 4 0) (with_bytes 0xd0 (little 8 0x1000) one_symbol_table)) (OfSection 1) []
    × BytesAre (with_bytes 0xd8 (little 8 0) one_symbol_table) (OfSection 1) []

-- section 0, an index that no section has, and bytes past the end of the file, also none; of a file
-- of 312 bytes the last is one
abbrev pub SectionsAreRefused : Type 0
SectionsAreRefused =
    RefusesBytes one_symbol_table (OfSection 0) (codes "! 000000000000003c bad-link\n")
    × RefusesBytes one_symbol_table (OfSection 3) (codes "! 000000000000003c bad-link\n")
    × RefusesBytes (with_bytes 0xd0 (little 8 265) one_symbol_table) (OfSection 1) (codes "! 00000000000000b8 table-outside\n")
    × RefusesBytes (with_bytes 0xd0 (little 8 313 ++ little 8 0) one_symbol_table) (OfSection 1) (codes "! 00000000000000b8 table-outside\n")
    × BytesAre (with_bytes 0xd0 (little 8 311 ++ little 8 1) one_symbol_table) (OfSection 1) (zeros 1)
    × (bytes_answer one_symbol_table 2 (OfSection 1) ≡ record { text = codes "! 000000000000003c too-many-headers\n"; status = 1 })

-- the first section of a name: the whole name counts, of two with one name the first; without
-- section names there is none
abbrev pub NamesAreFound : Type 0
NamesAreFound =
    BytesAre named_section (OfName (codes "main")) (symbol 0 0 0 0 0 ++ symbol 1 0x12 0xfff1 0x1000 0x10)
    × BytesAre (with_bytes 0xf8 (little 4 3) named_section) (OfName (codes "in")) (0 ∷ codes "main" ++ zeros 1)
    × BytesAre (with_bytes 0xf8 (little 4 1) named_section) (OfName (codes "main")) (symbol 0 0 0 0 0 ++ symbol 1 0x12 0xfff1 0x1000 0x10)
    × BytesAre (with_bytes 0x78 (little 4 1) named_section) (OfName (codes "main")) (symbol 0 0 0 0 0 ++ symbol 1 0x12 0xfff1 0x1000 0x10)
    × HasNoSection named_section (codes "mai")
    × HasNoSection named_section (codes "mains")
    × HasNoSection one_symbol_table (codes "main")

-- the fault of a name before the one that is found refuses the request, and one after it does not;
-- then the section is checked
abbrev pub NamesAreChecked : Type 0
NamesAreChecked =
    RefusesBytes (with_bytes 0xb8 (little 4 6) named_section) (OfName (codes "main")) (codes "! 00000000000000b8 name-outside\n")
    × RefusesBytes (with_bytes 0xb8 (little 4 6) named_section) (OfName (codes "n")) (codes "! 00000000000000b8 name-outside\n")
    × BytesAre (with_bytes 0xf8 (little 4 6) named_section) (OfName (codes "main")) (symbol 0 0 0 0 0 ++ symbol 1 0x12 0xfff1 0x1000 0x10)
    × BytesAre (with_bytes 0xb8 (little 4 6) named_section) (OfSection 2) (0 ∷ codes "main" ++ zeros 1)
    × RefusesBytes (with_bytes 0xd0 (little 8 0x1000) named_section) (OfName (codes "main")) (codes "! 00000000000000b8 table-outside\n")

-- a file of 120 bytes, whose program header covers all of it; the fields that locate section headers
-- are not checked, and are written as they are
abbrev pub SegmentsAreWritten : Type 0
SegmentsAreWritten =
    BytesAre one_load (OfSegment 0) one_load
    × BytesAre (with_bytes 0x28 (little 8 0x1000) one_load) (OfSegment 0) (with_bytes 0x28 (little 8 0x1000) one_load)
    × BytesAre (with_bytes 0x60 (little 8 4) one_load) (OfSegment 0) (0x7f ∷ codes "ELF")
    × BytesAre (with_bytes 0x40 (little 4 0) one_load) (OfSegment 0) (with_bytes 0x40 (little 4 0) one_load)

-- an index that no program header has, and bytes past the end of the file
abbrev pub SegmentsAreRefused : Type 0
SegmentsAreRefused =
    RefusesBytes one_load (OfSegment 1) (codes "! 0000000000000038 bad-link\n")
    × RefusesBytes (with_bytes 0x60 (little 8 0x79) one_load) (OfSegment 0) (codes "! 0000000000000040 table-outside\n")
    × RefusesBytes one_symbol_table (OfSegment 0) (codes "! 0000000000000038 bad-link\n")

-- the headers, the names of all sections if one is wanted, and the bytes; a name of 64 bytes costs
-- two pieces. What is refused costs no bytes, and before the headers only the file header
abbrev pub CostsOfBytes : Type 0
CostsOfBytes =
    (bytes_cost one_symbol_table 3 (OfSection 2) ≡ 64 + 3 * 64 + 6)
    × (bytes_cost one_symbol_table 3 (OfSection 3) ≡ 64 + 3 * 64)
    × (bytes_cost one_symbol_table 2 (OfSection 2) ≡ 64)
    × (bytes_cost named_section 3 (OfName (codes "main")) ≡ 64 + 3 * (64 + 64) + 48)
    × (bytes_cost named_section 3 (OfName (replicate 64 97)) ≡ 64 + 3 * (64 + 128))
    × (bytes_cost one_load 1 (OfSegment 0) ≡ 64 + 56 + 120)
    × (bytes_ceiling 312 3 (OfName (codes "main")) ≡ 64 + 3 * (64 + 64) + 312)
    × (bytes_ceiling 312 3 (OfSegment 0) ≡ 64 + 3 * 64 + 312)
