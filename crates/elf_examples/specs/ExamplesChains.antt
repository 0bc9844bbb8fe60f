-- Worked examples of hash tables in a loader's lookup: their counts, filters, buckets and chains.
use Rattle.std.specs.Prelude.{[], ◌∷◌, ◌++◌, codes}
use Rattle.elf_model.specs.Prelude.{little, versioned_library, versioned_without_sections, with_bytes, words}
use Rattle.elf_examples.specs.LoaderWords.{LoaderCosts, Fails, LoaderFinds, absent_0, absent_2, first_f, found_1, of_v1, of_v2, second_f}

-- no bucket; three words of a filter; words of a filter past the table; a shift of 32; a section of
-- fewer bytes; fewer than the four counts
abbrev pub CountsAreRefused : Type 0
CountsAreRefused =
    Fails (with_bytes 0xb0 (little 4 0) versioned_library) (codes "f") (codes "! 0000000000000330 hash-shape\n")
    × Fails (with_bytes 0xb8 (little 4 3) versioned_library) (codes "f") (codes "! 0000000000000330 hash-shape\n")
    × Fails (with_bytes 0xb8 (little 4 4) versioned_library) (codes "f") (codes "! 0000000000000330 hash-shape\n")
    × Fails (with_bytes 0xbc (little 4 0x20) versioned_library) (codes "f") (codes "! 0000000000000330 hash-shape\n")
    × Fails (with_bytes 0x350 (little 8 0x1f) versioned_library) (codes "f") (codes "! 0000000000000330 hash-shape\n")
    × Fails (with_bytes 0x350 (little 8 0xf) versioned_library) (codes "f") (codes "! 0000000000000330 hash-shape\n")

-- no word of a filter; a shift of 31, whose bits are none of the filter; a table that ends with its
-- buckets; counts that are refused cost nothing besides the headers
abbrev pub CountsAtTheirBounds : Type 0
CountsAtTheirBounds =
    Fails (with_bytes 0xb8 (little 4 0) versioned_library) (codes "f") (codes "! 0000000000000330 hash-shape\n")
    × LoaderCosts (with_bytes 0xb8 (little 4 0) versioned_library) (codes "f") 604
    × Fails (with_bytes 0xbc (little 4 0x1f) versioned_library) (codes "f") absent_0
    × LoaderCosts (with_bytes 0xbc (little 4 0x1f) versioned_library) (codes "f") 604
    × Fails (with_bytes 0x350 (little 8 0x20) versioned_library) (codes "f") (codes "! 00000000000000cc hash-index\n")
    × LoaderCosts (with_bytes 0x350 (little 8 0x20) versioned_library) (codes "f") 604

-- a section that ends before the chain words of symbols 4 and 5, and symbols that end before symbol
-- 4; the first symbol is found all the same
abbrev pub ChainsEndWithTheTable : Type 0
ChainsEndWithTheTable =
    Fails (with_bytes 0x350 (little 8 0x28) versioned_library) (codes "f") (codes "! 00000000000000d4 hash-index\n")
    × LoaderCosts (with_bytes 0x350 (little 8 0x28) versioned_library) (codes "f") 698
    × LoaderFinds (with_bytes 0x350 (little 8 0x28) versioned_library) (codes "f@V1") (first_f ++ of_v1 ++ found_1)
    × Fails (with_bytes 0x390 (little 8 0x60) versioned_library) (codes "f") (codes "! 00000000000000d4 hash-index\n")
    × LoaderCosts (with_bytes 0x390 (little 8 0x60) versioned_library) (codes "f") 698

-- the second of two bits is missing; the first; both
abbrev pub FiltersTellOfNone : Type 0
FiltersTellOfNone =
    Fails (with_bytes 0xc0 (little 8 0x3800) versioned_library) (codes "f") absent_0
    × Fails (with_bytes 0xc0 (little 8 0x1003000) versioned_library) (codes "f") absent_0
    × Fails (with_bytes 0xc0 (little 8 0) versioned_library) (codes "f") absent_0

-- an empty bucket; one below the first symbol of the table; one past the last symbol
abbrev pub BucketsLeadToSymbols : Type 0
BucketsLeadToSymbols =
    Fails (with_bytes 0xcc (little 4 0) versioned_library) (codes "f") absent_0
    × LoaderCosts (with_bytes 0xcc (little 4 0) versioned_library) (codes "f") 604
    × Fails (with_bytes 0xcc (little 4 1) (with_bytes 0xc0 (little 8 0xffffffffffffffff) versioned_library)) (codes "f") (codes "! 00000000000000cc hash-index\n")
    × LoaderCosts (with_bytes 0xcc (little 4 1) (with_bytes 0xc0 (little 8 0xffffffffffffffff) versioned_library)) (codes "f") 604
    × Fails (with_bytes 0xcc (little 4 6) versioned_library) (codes "f") (codes "! 00000000000000cc hash-index\n")
    × LoaderCosts (with_bytes 0xcc (little 4 6) versioned_library) (codes "f") 604

-- a chain whose last word is even; a name whose hash is that of another except for the lowest bit
abbrev pub ChainsEndAtOddWords : Type 0
ChainsEndAtOddWords =
    Fails (with_bytes 0xdc (little 4 0x2b60c) (with_bytes 0xc0 (little 8 0xffffffffffffffff) versioned_library)) (codes "nope") (codes "! 00000000000000dc hash-index\n")
    × Fails (with_bytes 0xc8 (little 4 3) (with_bytes 0xc0 (little 8 0xffffffffffffffff) versioned_library)) (codes "e") absent_2

-- a gABI hash table in its place: other symbols are in the chain, which ends, or has a cycle
abbrev pub OtherTables : Type 0
OtherTables =
    LoaderFinds (with_bytes 0xb0 (words (1 ∷ 6 ∷ 1 ∷ 0 ∷ 2 ∷ 3 ∷ 4 ∷ 5 ∷ 0 ∷ [])) (with_bytes 0x334 (little 4 5) versioned_library)) (codes "f") (second_f ++ of_v2 ++ codes "F found           4\n")
    × Fails (with_bytes 0xb0 (words (1 ∷ 6 ∷ 1 ∷ 0 ∷ 2 ∷ 3 ∷ 4 ∷ 5 ∷ 0 ∷ [])) (with_bytes 0x334 (little 4 5) versioned_library)) (codes "puts") (codes "F absent          5\n")
    × Fails (with_bytes 0xd0 (little 4 2) (with_bytes 0xb0 (words (1 ∷ 6 ∷ 1 ∷ 0 ∷ 2 ∷ 3 ∷ 4 ∷ 5 ∷ 0 ∷ [])) (with_bytes 0x334 (little 4 5) versioned_library))) (codes "nope") (codes "! 00000000000000b8 hash-cycle\n")

-- what these read: a chain word for each symbol that is tried
abbrev pub OtherTablesAsk : Type 0
OtherTablesAsk =
    LoaderCosts (with_bytes 0xb0 (words (1 ∷ 6 ∷ 1 ∷ 0 ∷ 2 ∷ 3 ∷ 4 ∷ 5 ∷ 0 ∷ [])) (with_bytes 0x334 (little 4 5) versioned_library)) (codes "f") 1384
    × LoaderCosts (with_bytes 0xb0 (words (1 ∷ 6 ∷ 1 ∷ 0 ∷ 2 ∷ 3 ∷ 4 ∷ 5 ∷ 0 ∷ [])) (with_bytes 0x334 (little 4 5) versioned_library)) (codes "puts") 1074
    × LoaderCosts (with_bytes 0xd0 (little 4 2) (with_bytes 0xb0 (words (1 ∷ 6 ∷ 1 ∷ 0 ∷ 2 ∷ 3 ∷ 4 ∷ 5 ∷ 0 ∷ [])) (with_bytes 0x334 (little 4 5) versioned_library))) (codes "nope") 1168

-- its counts: no bucket, more words than the section has; a word that is no index of a chain; a
-- section that has no room for the counts
abbrev pub OtherTablesAreChecked : Type 0
OtherTablesAreChecked =
    Fails (with_bytes 0xb0 (little 4 0) (with_bytes 0xb0 (words (1 ∷ 6 ∷ 1 ∷ 0 ∷ 2 ∷ 3 ∷ 4 ∷ 5 ∷ 0 ∷ [])) (with_bytes 0x334 (little 4 5) versioned_library))) (codes "f") (codes "! 0000000000000330 hash-shape\n")
    × Fails (with_bytes 0xb4 (little 4 0xa) (with_bytes 0xb0 (words (1 ∷ 6 ∷ 1 ∷ 0 ∷ 2 ∷ 3 ∷ 4 ∷ 5 ∷ 0 ∷ [])) (with_bytes 0x334 (little 4 5) versioned_library))) (codes "f") (codes "! 0000000000000330 hash-shape\n")
    × Fails (with_bytes 0xb8 (little 4 6) (with_bytes 0xb0 (words (1 ∷ 6 ∷ 1 ∷ 0 ∷ 2 ∷ 3 ∷ 4 ∷ 5 ∷ 0 ∷ [])) (with_bytes 0x334 (little 4 5) versioned_library))) (codes "f") (codes "! 00000000000000b8 hash-index\n")
    × Fails (with_bytes 0x350 (little 8 7) (with_bytes 0xb0 (words (1 ∷ 6 ∷ 1 ∷ 0 ∷ 2 ∷ 3 ∷ 4 ∷ 5 ∷ 0 ∷ [])) (with_bytes 0x334 (little 4 5) versioned_library))) (codes "f") (codes "! 0000000000000330 hash-shape\n")

-- no hash table among the sections, and none among the dynamic entries
abbrev pub NoTableIsFound : Type 0
NoTableIsFound =
    Fails (with_bytes 0x334 (little 4 1) versioned_library) (codes "f") (codes "! 0000000000000028 no-hash\n")
    × LoaderCosts (with_bytes 0x334 (little 4 1) versioned_library) (codes "f") 604
    × Fails (with_bytes 0x250 (little 8 0x63) versioned_without_sections) (codes "f") (codes "! 0000000000000020 no-hash\n")
    × LoaderCosts (with_bytes 0x250 (little 8 0x63) versioned_without_sections) (codes "f") 396

-- a hash table of no symbols; one without a link
abbrev pub TablesLinkToSymbols : Type 0
TablesLinkToSymbols =
    Fails (with_bytes 0x358 (little 4 3) versioned_library) (codes "f") (codes "! 0000000000000330 bad-link\n")
    × LoaderCosts (with_bytes 0x358 (little 4 3) versioned_library) (codes "f") 604
    × Fails (with_bytes 0x358 (little 4 0) versioned_library) (codes "f") (codes "! 0000000000000330 bad-link\n")
