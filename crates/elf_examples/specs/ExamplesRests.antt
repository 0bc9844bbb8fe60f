-- Worked examples of a loader's lookup by the program headers: the rest of a segment at an address.
use Rattle.std.specs.Prelude.{◌++◌, codes}
use Rattle.elf_model.specs.Prelude.{little, versioned_without_sections, with_bytes}
use Rattle.elf_examples.specs.LoaderWords.{LoaderCosts, Fails, LoaderFinds, absent_0, found_2}

-- no bucket; a bucket past the symbols of the section headers: symbols and chain words go on to the
-- end of the segment
abbrev pub TablesBySegments : Type 0
TablesBySegments =
    Fails (with_bytes 0xb0 (little 4 0) versioned_without_sections) (codes "f") (codes "! 0000000000000250 hash-shape\n")
    × Fails (with_bytes 0xcc (little 4 6) versioned_without_sections) (codes "f") absent_0

-- a segment that ends with its last byte but one; that ends past the end of the file; before the
-- symbols, within the hash table, before the strings' end, within the versym entries
abbrev pub RestsEnd : Type 0
RestsEnd =
    LoaderFinds (with_bytes 0x60 (little 8 0x2ef) versioned_without_sections) (codes "f") (codes "Y     1          4 00000000000002a9 0000000000000001 FUNC    GLOBAL DEFAULT       7 f\n" ++ codes "X     1          4     3 - V2\n" ++ found_2)
    × Fails (with_bytes 0x60 (little 8 0x2f1) versioned_without_sections) (codes "f") (codes "! 0000000000000040 table-outside\n")
    × LoaderCosts (with_bytes 0x60 (little 8 0x2f1) versioned_without_sections) (codes "f") 396
    × Fails (with_bytes 0x60 (little 8 0xdf) versioned_without_sections) (codes "f") (codes "! 0000000000000270 unmapped\n")
    × Fails (with_bytes 0x60 (little 8 0xb8) versioned_without_sections) (codes "f") (codes "! 0000000000000250 hash-shape\n")
    × Fails (with_bytes 0x60 (little 8 0x19f) versioned_without_sections) (codes "f") (codes "! 0000000000000260 unmapped\n")
    × Fails (with_bytes 0x60 (little 8 0x1a0) versioned_without_sections) (codes "f") (codes "! 0000000000000290 unmapped\n")
    × Fails (with_bytes 0x60 (little 8 0x1a6) versioned_without_sections) (codes "f") (codes "! 00000000000002a0 unmapped\n")

-- versym entries at the segment's last bytes; no symbols; strings past the segment; a hash table
-- past it; definitions of which 16 bytes are left
abbrev pub RowsAreRead : Type 0
RowsAreRead =
    Fails (with_bytes 0x298 (little 8 0x2ec) versioned_without_sections) (codes "f") (codes "! 0000000000000290 version-cut\n")
    × Fails (with_bytes 0x270 (little 8 0x63) versioned_without_sections) (codes "f") (codes "! 0000000000000250 unmapped\n")
    × Fails (with_bytes 0x288 (little 8 0x181) versioned_without_sections) (codes "f") (codes "! 0000000000000260 unmapped\n")
    × Fails (with_bytes 0x258 (little 8 0x2f0) versioned_without_sections) (codes "f") (codes "! 0000000000000250 unmapped\n")
    × Fails (with_bytes 0x2a8 (little 8 0x2e0) versioned_without_sections) (codes "f@V2") (codes "! 00000000000002a0 version-cut\n")
    × LoaderCosts (with_bytes 0x2a8 (little 8 0x2e0) versioned_without_sections) (codes "f@V2") 396

-- a second row of symbols is not read; a missing row of strings, or of their size, is refused at
-- the hash table's
abbrev pub FirstRowsCount : Type 0
FirstRowsCount =
    LoaderFinds (with_bytes 0x2b0 (little 8 6 ++ little 8 0x100) versioned_without_sections) (codes "f") (codes "Y     1          4 00000000000002a9 0000000000000001 FUNC    GLOBAL DEFAULT       7 f\n" ++ codes "X     1          4     3 - V2\n" ++ found_2)
    × Fails (with_bytes 0x260 (little 8 0x63) versioned_without_sections) (codes "f") (codes "! 0000000000000250 unmapped\n")
    × Fails (with_bytes 0x280 (little 8 0x63) versioned_without_sections) (codes "f") (codes "! 0000000000000250 unmapped\n")

-- dynamic entries whose number is not whole, none, too few of them, past the end of the file; no
-- segment of them
abbrev pub EntriesAreChecked : Type 0
EntriesAreChecked =
    Fails (with_bytes 0x98 (little 8 0xbf) versioned_without_sections) (codes "f") (codes "! 0000000000000078 size-not-whole\n")
    × LoaderCosts (with_bytes 0x98 (little 8 0xbf) versioned_without_sections) (codes "f") 204
    × Fails (with_bytes 0x98 (little 8 0) versioned_without_sections) (codes "f") (codes "! 0000000000000020 no-hash\n")
    × LoaderCosts (with_bytes 0x98 (little 8 0) versioned_without_sections) (codes "f") 204
    × Fails (with_bytes 0x98 (little 8 0x30) versioned_without_sections) (codes "f") (codes "! 0000000000000250 unmapped\n")
    × LoaderCosts (with_bytes 0x98 (little 8 0x30) versioned_without_sections) (codes "f") 252
    × Fails (with_bytes 0x98 (little 8 0xd0) versioned_without_sections) (codes "f") (codes "! 0000000000000078 table-outside\n")
    × LoaderCosts (with_bytes 0x98 (little 8 0xd0) versioned_without_sections) (codes "f") 204
    × Fails (with_bytes 0x78 (little 4 0) versioned_without_sections) (codes "f") (codes "! 0000000000000020 no-hash\n")
    × LoaderCosts (with_bytes 0x78 (little 4 0) versioned_without_sections) (codes "f") 204

-- a row after the first null entry is none
abbrev pub EntriesEnd : Type 0
EntriesEnd =
    Fails (with_bytes 0x240 (little 8 0) versioned_without_sections) (codes "f") (codes "! 0000000000000020 no-hash\n")
    × LoaderCosts (with_bytes 0x240 (little 8 0) versioned_without_sections) (codes "f") 396

-- symbols that are the rest of the segment, of 24 bytes each: three of them, and four, of which the
-- last is not the wanted one
abbrev pub SymbolsEndWithTheSegment : Type 0
SymbolsEndWithTheSegment =
    Fails (with_bytes 0x278 (little 8 0x2a8) versioned_without_sections) (codes "f") (codes "! 00000000000000cc hash-index\n")
    × LoaderCosts (with_bytes 0x278 (little 8 0x2a8) versioned_without_sections) (codes "f") 396
    × Fails (with_bytes 0x278 (little 8 0x290) versioned_without_sections) (codes "f") (codes "! 00000000000000d4 hash-index\n")
    × LoaderCosts (with_bytes 0x278 (little 8 0x290) versioned_without_sections) (codes "f") 490
