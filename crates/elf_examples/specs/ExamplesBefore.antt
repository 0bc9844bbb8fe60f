-- Worked examples of what comes before a loader's lookup: the file's headers, and which of several
-- tables counts.
use Rattle.std.specs.Prelude.{[], ◌∷◌, ◌++◌, codes}
use Rattle.elf_model.specs.Prelude.{little, versioned_library, versioned_without_sections, with_bytes, words}
use Rattle.elf_examples.specs.LoaderWords.{LoaderCosts, Fails, LoaderFinds, absent_2, first_f, found_1, found_2, of_v1, of_v2, second_f}

-- the file header, and how many headers are allowed, before all else; the section of the section
-- names once the headers are read
abbrev pub HeadersAreChecked : Type 0
HeadersAreChecked =
    Fails (with_bytes 0x4 (little 1 1) versioned_library) (codes "f") (codes "! 0000000000000004 class\n")
    × LoaderCosts (with_bytes 0x4 (little 1 1) versioned_library) (codes "f") 64
    × Fails (with_bytes 0x3c (little 2 9) versioned_library) (codes "f") (codes "! 000000000000003c too-many-headers\n")
    × LoaderCosts (with_bytes 0x3c (little 2 9) versioned_library) (codes "f") 64
    × Fails (with_bytes 0x38 (little 2 9) versioned_without_sections) (codes "f") (codes "! 0000000000000038 too-many-headers\n")
    × LoaderCosts (with_bytes 0x38 (little 2 9) versioned_without_sections) (codes "f") 64
    × Fails (with_bytes 0x3e (little 2 1) versioned_library) (codes "f") (codes "! 0000000000000330 not-strings\n")
    × LoaderCosts (with_bytes 0x3e (little 2 1) versioned_library) (codes "f") 604

-- a GNU hash table counts before a gABI one, in any order
abbrev pub GnuTablesComeFirst : Type 0
GnuTablesComeFirst =
    LoaderFinds (with_bytes 0x4b4 (little 4 5) versioned_library) (codes "f") (second_f ++ of_v2 ++ found_2)
    × Fails (with_bytes 0x4b4 (little 4 0x6ffffff6) (with_bytes 0x334 (little 4 5) versioned_library)) (codes "f") (codes "! 00000000000004b0 bad-link\n")
    × LoaderFinds (with_bytes 0x230 (little 8 4 ++ little 8 0xe0) versioned_without_sections) (codes "f") (codes "Y     1          4 00000000000002a9 0000000000000001 FUNC    GLOBAL DEFAULT       7 f\n" ++ codes "X     1          4     3 - V2\n" ++ found_2)

-- a second section of a type is not read: a hash table, versym entries, definitions, needs
abbrev pub FirstSectionsCount : Type 0
FirstSectionsCount =
    LoaderFinds (with_bytes 0x4b4 (little 4 0x6ffffff6) versioned_library) (codes "f") (second_f ++ of_v2 ++ found_2)
    × LoaderFinds (with_bytes 0x4b4 (little 4 0x6fffffff) versioned_library) (codes "f") (second_f ++ of_v2 ++ found_2)
    × LoaderFinds (with_bytes 0x4b4 (little 4 0x6ffffffd) versioned_library) (codes "f@V1") (first_f ++ of_v1 ++ found_1)
    × LoaderFinds (with_bytes 0x4b4 (little 4 0x6ffffffe) versioned_library) (codes "f@V1") (first_f ++ of_v1 ++ found_1)

-- the first segment of dynamic entries: the whole file, which has no hash table among them; the
-- first that is loaded, at other addresses and from another offset on
abbrev pub FirstSegmentCounts : Type 0
FirstSegmentCounts =
    Fails (with_bytes 0x40 (little 4 2) versioned_without_sections) (codes "f") (codes "! 0000000000000020 no-hash\n")
    × LoaderCosts (with_bytes 0x40 (little 4 2) versioned_without_sections) (codes "f") 956
    × LoaderFinds (with_bytes 0x2c8 (little 8 0x1210) (with_bytes 0x2a8 (little 8 0x11b0) (with_bytes 0x298 (little 8 0x11a0) (with_bytes 0x278 (little 8 0x10e0) (with_bytes 0x268 (little 8 0x1170) (with_bytes 0x258 (little 8 0x10b0) (with_bytes 0x60 (little 8 0x2f0) (with_bytes 0x50 (little 8 0x1000) (with_bytes 0x48 (little 8 0) versioned_without_sections))))))))) (codes "f") (codes "Y     1          4 00000000000002a9 0000000000000001 FUNC    GLOBAL DEFAULT       7 f\n" ++ codes "X     1          4     3 - V2\n" ++ found_2)
    × LoaderCosts (with_bytes 0x2c8 (little 8 0x1210) (with_bytes 0x2a8 (little 8 0x11b0) (with_bytes 0x298 (little 8 0x11a0) (with_bytes 0x278 (little 8 0x10e0) (with_bytes 0x268 (little 8 0x1170) (with_bytes 0x258 (little 8 0x10b0) (with_bytes 0x60 (little 8 0x2f0) (with_bytes 0x50 (little 8 0x1000) (with_bytes 0x48 (little 8 0) versioned_without_sections))))))))) (codes "f") 988
    × LoaderFinds (with_bytes 0x2c8 (little 8 0x1210) (with_bytes 0x2a8 (little 8 0x11b0) (with_bytes 0x298 (little 8 0x11a0) (with_bytes 0x278 (little 8 0x10e0) (with_bytes 0x268 (little 8 0x1170) (with_bytes 0x258 (little 8 0x10b0) (with_bytes 0x60 (little 8 0x2b0) (with_bytes 0x50 (little 8 0x1040) (with_bytes 0x48 (little 8 0x40) versioned_without_sections))))))))) (codes "f@V1") (codes "Y     1          3 00000000000002a8 0000000000000001 FUNC    GLOBAL DEFAULT       7 f\n" ++ codes "X     1          3     2 H V1\n" ++ found_1)
    × LoaderCosts (with_bytes 0x2c8 (little 8 0x1210) (with_bytes 0x2a8 (little 8 0x11b0) (with_bytes 0x298 (little 8 0x11a0) (with_bytes 0x278 (little 8 0x10e0) (with_bytes 0x268 (little 8 0x1170) (with_bytes 0x258 (little 8 0x10b0) (with_bytes 0x60 (little 8 0x2b0) (with_bytes 0x50 (little 8 0x1040) (with_bytes 0x48 (little 8 0x40) versioned_without_sections))))))))) (codes "f@V1") 950
    × Fails (with_bytes 0x50 (little 8 0x1000) versioned_without_sections) (codes "f") (codes "! 0000000000000250 unmapped\n")
    × LoaderCosts (with_bytes 0x50 (little 8 0x1000) versioned_without_sections) (codes "f") 396

-- a gABI hash table by the segments: its walk, its counts, and no room for these
abbrev pub TablesOfTheGabiBySegments : Type 0
TablesOfTheGabiBySegments =
    LoaderFinds (with_bytes 0xb0 (words (1 ∷ 6 ∷ 1 ∷ 0 ∷ 2 ∷ 3 ∷ 4 ∷ 5 ∷ 0 ∷ [])) (with_bytes 0x250 (little 8 4) versioned_without_sections)) (codes "f") (codes "Y     1          4 00000000000002a9 0000000000000001 FUNC    GLOBAL DEFAULT       7 f\n" ++ codes "X     1          4     3 - V2\n" ++ codes "F found           4\n")
    × Fails (with_bytes 0xb0 (little 4 0) (with_bytes 0x250 (little 8 4) versioned_without_sections)) (codes "f") (codes "! 0000000000000250 hash-shape\n")
    × Fails (with_bytes 0x258 (little 8 0x2e9) (with_bytes 0x250 (little 8 4) versioned_without_sections)) (codes "f") (codes "! 0000000000000250 hash-shape\n")
    × Fails (with_bytes 0x258 (little 8 0x2e1) versioned_without_sections) (codes "f") (codes "! 0000000000000250 hash-shape\n")

-- no definitions, no needs; needs that are not loaded; neither is read without versym entries
abbrev pub VersionsBySegments : Type 0
VersionsBySegments =
    Fails (with_bytes 0x2a0 (little 8 0x63) versioned_without_sections) (codes "f") (codes "! 00000000000001a8 version-index\n")
    × LoaderFinds (with_bytes 0x2c0 (little 8 0x63) versioned_without_sections) (codes "f@V2") (codes "Y     1          4 00000000000002a9 0000000000000001 FUNC    GLOBAL DEFAULT       7 f\n" ++ codes "X     1          4     3 - V2\n" ++ found_2)
    × Fails (with_bytes 0x2c8 (little 8 0x2f0) versioned_without_sections) (codes "f") (codes "! 00000000000002c0 unmapped\n")
    × LoaderFinds (with_bytes 0x2c8 (little 8 0x2f0) (with_bytes 0x290 (little 8 0x63) versioned_without_sections)) (codes "f") (codes "Y     1          3 00000000000002a8 0000000000000001 FUNC    GLOBAL DEFAULT       7 f\n" ++ found_1)
    × Fails (with_bytes 0x2a0 (little 8 0x63) versioned_without_sections) (codes "f@GLIBC_2.2.5") absent_2

-- a hash table without room for its counts is refused before its link and the other rows are
-- checked
abbrev pub SizesComeFirst : Type 0
SizesComeFirst =
    Fails (with_bytes 0x358 (little 4 3) (with_bytes 0x350 (little 8 0xf) versioned_library)) (codes "f") (codes "! 0000000000000330 hash-shape\n")
    × Fails (with_bytes 0x358 (little 4 3) (with_bytes 0x350 (little 8 0x10) versioned_library)) (codes "f") (codes "! 0000000000000330 bad-link\n")
    × Fails (with_bytes 0x358 (little 4 3) (with_bytes 0x350 (little 8 7) (with_bytes 0x334 (little 4 5) versioned_library))) (codes "f") (codes "! 0000000000000330 hash-shape\n")
    × Fails (with_bytes 0x358 (little 4 3) (with_bytes 0x350 (little 8 8) (with_bytes 0x334 (little 4 5) versioned_library))) (codes "f") (codes "! 0000000000000330 bad-link\n")
    × Fails (with_bytes 0x278 (little 8 0x2f0) (with_bytes 0x258 (little 8 0x2e1) versioned_without_sections)) (codes "f") (codes "! 0000000000000250 hash-shape\n")
    × Fails (with_bytes 0x278 (little 8 0x2f0) (with_bytes 0x258 (little 8 0x2e0) versioned_without_sections)) (codes "f") (codes "! 0000000000000270 unmapped\n")
