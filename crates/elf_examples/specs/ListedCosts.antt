-- What listings read at most, and their upper bounds.
use Rattle.std.specs.Prelude.{ℕ, ◌≡◌, ◌+◌, ◌-◌, ◌*◌, ◌++◌, []}
use Rattle.elf_model.specs.Prelude.{ALL, DYNAMIC, HEADER, NOTES, RELOCS, SECTIONS, SEGMENTS, SYMBOLS, bare_header, build_note, ceiling, cost, hash_with_cycle, little, named_section, needed_library, note_segment, one_call, one_load, one_symbol_table, one_table, overlapping_relocations, tables_over_headers, with_bytes}

-- whole listings
abbrev pub CostsOfWholeListings : Type 0
CostsOfWholeListings =
    (cost one_symbol_table 3 63 ALL ≡ 432)
    × (cost tables_over_headers 5 63 ALL ≡ 3552)
    × (cost hash_with_cycle 4 63 ALL ≡ 584)
    × (cost overlapping_relocations 3 63 ALL ≡ 480)
    × (cost one_call 5 63 ALL ≡ 672)

-- the file header, the sections, the program headers and the symbols
abbrev LISTED : ℕ
LISTED = HEADER + SECTIONS + SEGMENTS + SYMBOLS

-- parts of listings
abbrev pub CostsOfParts : Type 0
CostsOfParts =
    (cost named_section 3 63 SECTIONS ≡ 448)
    × (cost one_call 5 63 RELOCS ≡ 496)
    × (cost one_symbol_table 3 63 SYMBOLS ≡ 432)
    × (cost one_symbol_table 3 63 LISTED ≡ 432)
    × (cost tables_over_headers 5 63 LISTED ≡ 3552)
    × (cost hash_with_cycle 4 63 LISTED ≡ 584)
    × (cost overlapping_relocations 3 63 LISTED ≡ 256)
    × (cost one_call 5 63 LISTED ≡ 560)
    × (cost one_load 1 63 LISTED ≡ 120)
    × (cost one_symbol_table 3 63 SECTIONS ≡ 256)
    × (cost named_section 3 63 SYMBOLS ≡ 432)
    × (cost named_section 4 63 SECTIONS ≡ 448)
    × (cost needed_library 3 63 DYNAMIC ≡ 496)
    × (cost (one_table 7 4 0 build_note []) 3 63 NOTES ≡ 292)

-- files without sections: the program headers are read once, for the segments and for the tables
-- that they describe, and for no other part; there are none for any size of a section header
abbrev pub CostsWithoutSections : Type 0
CostsWithoutSections =
    (cost one_load 1 63 SEGMENTS ≡ 120)
    × (cost one_load 1 63 ALL ≡ 120)
    × (cost one_load 1 63 NOTES ≡ 120)
    × (cost one_load 1 63 DYNAMIC ≡ 120)
    × (cost one_load 1 63 (SECTIONS + SYMBOLS + RELOCS) ≡ 64)
    × (cost one_load 1 63 SECTIONS ≡ 64)
    × (cost one_load 1 63 SYMBOLS ≡ 64)
    × (cost one_load 1 63 RELOCS ≡ 64)
    × (cost one_load 1 63 (SYMBOLS + 128) ≡ 64)
    × (cost one_load 1 63 (HEADER + NOTES) ≡ 120)
    × (cost one_load 1 63 (SYMBOLS + DYNAMIC) ≡ 120)
    × (cost (with_bytes 0x3a (little 2 64) note_segment) 1 63 NOTES ≡ 140)
    × (cost (with_bytes 0x3a (little 2 64) one_load) 1 63 DYNAMIC ≡ 120)
    × (cost note_segment 1 63 NOTES ≡ 140)
    × (cost note_segment 1 63 ALL ≡ 140)

-- the file header alone, or a fault before the section headers are read
abbrev pub CostsOfTheHeaderAlone : Type 0
CostsOfTheHeaderAlone =
    (cost bare_header 1 63 ALL ≡ 64)
    × (cost one_symbol_table 3 63 HEADER ≡ 64)
    × (cost one_symbol_table 3 63 0 ≡ 64)
    × (cost one_symbol_table 2 63 ALL ≡ 64)
    × (cost [] 1 63 ALL ≡ 64)

-- a table counts if its own checks pass, for any position of the first fault
abbrev pub CostsOfTablesThatFail : Type 0
CostsOfTablesThatFail =
    (cost (with_bytes 0xe0 (little 4 0x0) one_symbol_table) 3 63 ALL ≡ 432)
    × (cost (with_bytes 0xf0 (little 8 0x17) one_symbol_table) 3 63 ALL ≡ 256)
    × (cost (with_bytes 0xe0 (little 4 0x9) (with_bytes 0xf0 (little 8 0x5) (with_bytes 0xd8 (little 8 0x0) one_symbol_table))) 3 63 ALL ≡ 256)
    × (cost (with_bytes 0x58 (little 4 0xffffffff) one_symbol_table) 3 63 ALL ≡ 432)

-- a table that ends at the end of the file counts, and one that ends one byte past it does not, nor
-- one that starts past it: notes of a section and of a segment, symbols, relocation entries and
-- dynamic entries
abbrev pub CostsAtTheEnd : Type 0
CostsAtTheEnd =
    (cost (with_bytes 0xbc (little 8 (292 - 36)) (one_table 7 4 0 build_note [])) 3 63 NOTES ≡ 64 + 192 + 36)
    × (cost (with_bytes 0xbc (little 8 (292 - 35)) (one_table 7 4 0 build_note [])) 3 63 NOTES ≡ 64 + 192)
    × (cost (with_bytes 0xbc (little 8 0xffffffffffffffff) (one_table 7 4 0 build_note [])) 3 63 NOTES ≡ 64 + 192)
    × (cost (with_bytes 0x60 (little 8 21) note_segment) 1 63 NOTES ≡ 64 + 56)
    × (cost (with_bytes 0x48 (little 8 0x1000) note_segment) 1 63 NOTES ≡ 64 + 56)
    × (cost (with_bytes 0xd0 (little 8 (312 - 48)) one_symbol_table) 3 63 SYMBOLS ≡ 64 + 192 + 2 * 88)
    × (cost (with_bytes 0xd0 (little 8 (312 - 47)) one_symbol_table) 3 63 SYMBOLS ≡ 64 + 192)
    × (cost (with_bytes 0x130 (little 8 (472 - 24)) one_call) 5 63 RELOCS ≡ 64 + 320 + 112)
    × (cost (with_bytes 0x130 (little 8 (472 - 23)) one_call) 5 63 RELOCS ≡ 64 + 320)
    × (cost (with_bytes 0xd3 (little 8 (315 - 48)) needed_library) 3 63 DYNAMIC ≡ 64 + 192 + 3 * 80)
    × (cost (with_bytes 0xd3 (little 8 (315 - 47)) needed_library) 3 63 DYNAMIC ≡ 64 + 192)

-- relocation entries count if their own table's checks pass, no matter what they link to; and if a
-- later check of the section of the section names fails they count, since the section headers are
-- read before it
abbrev pub CostsOfRelocations : Type 0
CostsOfRelocations =
    (cost (with_bytes 0x54 (little 4 0x0) one_call) 5 63 RELOCS ≡ 64 + 320 + 112)
    × (cost (with_bytes 0x140 (little 4 0x9) one_call) 5 63 RELOCS ≡ 64 + 320 + 112)
    × (cost (with_bytes 0x19c (little 4 0x1) one_call) 5 63 RELOCS ≡ 64 + 320 + 112)
    × (cost (with_bytes 0x150 (little 8 0x10) one_call) 5 63 RELOCS ≡ 64 + 320)
    × (cost (with_bytes 0x138 (little 8 0x0 ++ little 4 0x9) one_call) 5 63 RELOCS ≡ 64 + 320)
    × (cost (with_bytes 0x3e (little 2 0x1) one_call) 5 63 RELOCS ≡ 64 + 320 + 112)
    × (cost (with_bytes 0x1b8 (little 8 0x149) (with_bytes 0x3e (little 2 0x4) one_call)) 5 63 RELOCS ≡ 64 + 320 + 112)
    × (cost (with_bytes 0x3e (little 2 0x5) one_call) 5 63 RELOCS ≡ 64)
    × (cost one_call 4 63 RELOCS ≡ 64)

-- names of 63, 64 and 4,096 bytes
abbrev pub CostsOfLongerNames : Type 0
CostsOfLongerNames =
    (cost one_symbol_table 3 63 ALL ≡ 432)
    × (cost one_symbol_table 3 64 ALL ≡ 560)
    × (cost one_symbol_table 3 4096 ALL ≡ 8624)

-- the ceilings of files of 472 and 312 bytes, and of lengths just below and at a multiple of 16
abbrev pub ListingCeilings : Type 0
ListingCeilings =
    (ceiling 472 5 63 ≡ 17264) × (ceiling 312 3 63 ≡ 7024)
    × (ceiling 15 1 63 ≡ 64 + (120 + 64 + 15))
    × (ceiling 16 1 63 ≡ 64 + (120 + 64 + 16 + 96))
    × (ceiling 479 5 64 ≡ 64 + 5 * (120 + 128 + 479 + 29 * 160))
