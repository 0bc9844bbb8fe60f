-- Worked examples of version indices in a loader's lookup: versym entries, and the tables of
-- definitions and needs.
use Rattle.std.specs.Prelude.{◌++◌, codes}
use Rattle.elf_model.specs.Prelude.{little, versioned_library, versioned_without_sections, with_bytes}
use Rattle.elf_examples.specs.LoaderWords.{LoaderCosts, Fails, LoaderFinds, absent_2, first_f, found_1, found_2, of_none, of_v1, of_v2, only_g, second_f}

-- two default versions; the hidden index 1; the index 0; an index that no record names, requested
-- by its name or not
abbrev pub WordsDecide : Type 0
WordsDecide =
    LoaderFinds (with_bytes 0x1a6 (little 2 2) versioned_library) (codes "f") (first_f ++ codes "X     4          3     2 - V1\n" ++ found_1)
    × LoaderFinds (with_bytes 0x1a6 (little 2 0x8001) versioned_library) (codes "f") (first_f ++ codes "X     4          3     1 H \n" ++ found_1)
    × LoaderFinds (with_bytes 0x1a6 (little 2 0) versioned_library) (codes "f") (first_f ++ codes "X     4          3     0 - \n" ++ found_1)
    × Fails (with_bytes 0x1a8 (little 2 9) versioned_library) (codes "f") (codes "! 00000000000001a8 version-index\n")
    × LoaderCosts (with_bytes 0x1a8 (little 2 9) versioned_library) (codes "f") 932
    × Fails (with_bytes 0x1a8 (little 2 9) versioned_library) (codes "f@V2") absent_2
    × LoaderCosts (with_bytes 0x1a8 (little 2 9) versioned_library) (codes "f@V2") 1256

-- fewer versym entries than symbols: a symbol before their end is found, one after it refused, even
-- if no version is requested
abbrev pub WordsEnd : Type 0
WordsEnd =
    LoaderFinds (with_bytes 0x410 (little 8 8) versioned_library) (codes "f@V1") (first_f ++ of_v1 ++ found_1)
    × Fails (with_bytes 0x410 (little 8 8) versioned_library) (codes "f") (codes "! 00000000000003f0 version-cut\n")
    × LoaderCosts (with_bytes 0x410 (little 8 8) versioned_library) (codes "f") 792
    × Fails (with_bytes 0x410 (little 8 0) versioned_library) (codes "f") (codes "! 00000000000003f0 version-cut\n")

-- half a versym entry; entries of another size; entries of other symbols, also if there are none;
-- entries outside the file
abbrev pub WordsAreChecked : Type 0
WordsAreChecked =
    Fails (with_bytes 0x410 (little 8 9) versioned_library) (codes "f") (codes "! 00000000000003f0 size-not-whole\n")
    × Fails (with_bytes 0x428 (little 8 4) versioned_library) (codes "f") (codes "! 00000000000003f0 entry-size\n")
    × LoaderCosts (with_bytes 0x428 (little 8 4) versioned_library) (codes "f") 604
    × Fails (with_bytes 0x418 (little 4 3) versioned_library) (codes "f") (codes "! 00000000000003f0 bad-link\n")
    × Fails (with_bytes 0x418 (little 4 3) (with_bytes 0x410 (little 8 0) versioned_library)) (codes "f") (codes "! 00000000000003f0 bad-link\n")
    × Fails (with_bytes 0x408 (little 8 0x1000) versioned_library) (codes "f") (codes "! 00000000000003f0 table-outside\n")

-- a file without versym entries: each version matches, and none is reported
abbrev pub WithoutWords : Type 0
WithoutWords =
    LoaderFinds (with_bytes 0x3f4 (little 4 1) versioned_library) (codes "f@V9") (first_f ++ found_1)
    × LoaderCosts (with_bytes 0x3f4 (little 4 1) versioned_library) (codes "f@V9") 698
    × LoaderFinds (with_bytes 0x450 (little 8 0x1000) (with_bytes 0x3f4 (little 4 1) versioned_library)) (codes "f") (first_f ++ found_1)
    × LoaderCosts (with_bytes 0x450 (little 8 0x1000) (with_bytes 0x3f4 (little 4 1) versioned_library)) (codes "f") 698
    × LoaderFinds (with_bytes 0x290 (little 8 0x63) versioned_without_sections) (codes "f@V9") (codes "Y     1          3 00000000000002a8 0000000000000001 FUNC    GLOBAL DEFAULT       7 f\n" ++ found_1)

-- no definitions, one of another layout version, one of an index that is too large: if a name is
-- reported or requested, and not otherwise
abbrev pub DefinitionsAreRead : Type 0
DefinitionsAreRead =
    Fails (with_bytes 0x434 (little 4 1) versioned_library) (codes "f") (codes "! 00000000000001a8 version-index\n")
    × Fails (with_bytes 0x434 (little 4 1) versioned_library) (codes "f@V2") absent_2
    × Fails (with_bytes 0x1cc (little 2 2) versioned_library) (codes "f") (codes "! 00000000000001cc version\n")
    × LoaderCosts (with_bytes 0x1cc (little 2 2) versioned_library) (codes "f") 848
    × Fails (with_bytes 0x1cc (little 2 2) versioned_library) (codes "f@V2") (codes "! 00000000000001cc version\n")
    × LoaderCosts (with_bytes 0x1cc (little 2 2) versioned_library) (codes "f@V2") 788
    × LoaderFinds (with_bytes 0x1cc (little 2 2) versioned_library) (codes "g") (only_g ++ of_none ++ found_1)
    × LoaderCosts (with_bytes 0x1cc (little 2 2) versioned_library) (codes "g") 698
    × Fails (with_bytes 0x1d0 (little 2 0x402) versioned_library) (codes "f") (codes "! 00000000000001cc version-index\n")

-- the highest bit of a definition's index; the largest index there is
abbrev pub NumbersHaveNoHighestBit : Type 0
NumbersHaveNoHighestBit =
    LoaderFinds (with_bytes 0x1d0 (little 2 0x8002) versioned_library) (codes "f@V1") (first_f ++ of_v1 ++ found_1)
    × LoaderFinds (with_bytes 0x1aa (little 2 0x3ff) (with_bytes 0x1a8 (little 2 0x3ff) (with_bytes 0x1ec (little 2 0x83ff) versioned_library))) (codes "f@V2") (second_f ++ codes "X     4          4  1023 - V2\n" ++ found_2)

-- a definition that names the file itself; two of one index; a name that is outside, which is read
-- if it is compared or reported
abbrev pub DefinitionsName : Type 0
DefinitionsName =
    Fails (with_bytes 0x1ce (little 2 1) versioned_library) (codes "f@V1") absent_2
    × LoaderFinds (with_bytes 0x1ec (little 2 2) versioned_library) (codes "f@V2") (first_f ++ codes "X     4          3     2 H V2\n" ++ found_1)
    × Fails (with_bytes 0x1fc (little 4 0x30) versioned_library) (codes "f@V1") (codes "! 00000000000001fc name-outside\n")
    × LoaderCosts (with_bytes 0x1fc (little 4 0x30) versioned_library) (codes "f@V1") 880
    × Fails (with_bytes 0x1fc (little 4 0x30) versioned_library) (codes "f") (codes "! 00000000000001fc name-outside\n")
    × LoaderCosts (with_bytes 0x1fc (little 4 0x30) versioned_library) (codes "f") 1196

-- a section of definitions of no bytes is none, and nothing of it is checked; one that is outside
-- the file, or whose strings are none, is refused
abbrev pub EmptyTables : Type 0
EmptyTables =
    Fails (with_bytes 0x450 (little 8 0) versioned_library) (codes "f@V2") absent_2
    × Fails (with_bytes 0x458 (little 4 0) (with_bytes 0x448 (little 8 0x1000) (with_bytes 0x450 (little 8 0) versioned_library))) (codes "f@V2") absent_2
    × Fails (with_bytes 0x450 (little 8 0x1000) versioned_library) (codes "g") (codes "! 0000000000000430 table-outside\n")
    × Fails (with_bytes 0x458 (little 4 2) versioned_library) (codes "g") (codes "! 0000000000000370 not-strings\n")
    × Fails (with_bytes 0x490 (little 8 0x1000) versioned_library) (codes "g") (codes "! 0000000000000470 table-outside\n")

-- a needed version of a symbol's index is a wanted one; the definition comes first if a name is
-- reported
abbrev pub NeedsNameToo : Type 0
NeedsNameToo =
    LoaderFinds (with_bytes 0x226 (little 2 3) versioned_library) (codes "f@GLIBC_2.2.5") (second_f ++ codes "X     4          4     3 - GLIBC_2.2.5\n" ++ found_2)
    × LoaderFinds (with_bytes 0x226 (little 2 3) versioned_library) (codes "f") (second_f ++ of_v2 ++ found_2)
    × LoaderCosts (with_bytes 0x226 (little 2 3) versioned_library) (codes "f") 1196
    × LoaderFinds (with_bytes 0x1a8 (little 2 4) versioned_library) (codes "f") (second_f ++ codes "X     4          4     4 - GLIBC_2.2.5\n" ++ found_2)
    × LoaderCosts (with_bytes 0x1a8 (little 2 4) versioned_library) (codes "f") 1252
    × Fails (with_bytes 0x22c (little 4 0x10) versioned_library) (codes "f@V2") (codes "! 0000000000000220 version-cut\n")
    × LoaderCosts (with_bytes 0x22c (little 4 0x10) versioned_library) (codes "f@V2") 1064

-- records that overlap: no more are read than have room one after another; of a needed file whose
-- versions are outside, only the file itself
abbrev pub RecordsLieOver : Type 0
RecordsLieOver =
    Fails (with_bytes 0x226 (little 2 0) (with_bytes 0x224 (little 2 8) (with_bytes 0x220 (little 4 0x16) (with_bytes 0x218 (little 4 8) versioned_library)))) (codes "f@V9") (codes "! 0000000000000218 version-cut\n")
    × LoaderCosts (with_bytes 0x226 (little 2 0) (with_bytes 0x224 (little 2 8) (with_bytes 0x220 (little 4 0x16) (with_bytes 0x218 (little 4 8) versioned_library)))) (codes "f@V9") 1064
    × Fails (with_bytes 0x218 (little 4 0x11) versioned_library) (codes "f@V9") (codes "! 0000000000000210 version-cut\n")
    × LoaderCosts (with_bytes 0x218 (little 4 0x11) versioned_library) (codes "f@V9") 972
    × Fails (with_bytes 0x1d8 (little 4 0x39) versioned_library) (codes "f@V9") (codes "! 00000000000001cc version-cut\n")
    × LoaderCosts (with_bytes 0x1d8 (little 4 0x39) versioned_library) (codes "f@V9") 788
    × Fails (with_bytes 0x450 (little 8 0x13) versioned_library) (codes "f@V9") (codes "! 0000000000000430 version-cut\n")
    × LoaderCosts (with_bytes 0x450 (little 8 0x13) versioned_library) (codes "f@V9") 604
