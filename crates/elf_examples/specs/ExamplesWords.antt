-- Worked examples of versym entries without records: nothing names a version, and the entries are
-- not read.
use Rattle.std.specs.Prelude.{ℕ, List, ◌++◌, codes}
use Rattle.elf_model.specs.Prelude.{little, versioned_library, versioned_without_sections, with_bytes}
use Rattle.elf_examples.specs.LoaderWords.{LoaderCosts, Fails, LoaderFinds, absent_2, first_f, found_1, found_2, of_v1, of_v2, second_f}

-- the library without a section of definitions and without one of needs, and the one without
-- section headers without their entries
abbrev pub without_records : List ℕ
without_records = with_bytes 0x474 (little 4 1) (with_bytes 0x434 (little 4 1) versioned_library)

abbrev pub without_rows : List ℕ
without_rows = with_bytes 0x2c0 (little 8 0x63) (with_bytes 0x2a0 (little 8 0x63) versioned_without_sections)

abbrev pub first_by_segments : List ℕ
first_by_segments = codes "Y     1          3 00000000000002a8 0000000000000001 FUNC    GLOBAL DEFAULT       7 f\n"

-- by the sections: the first symbol of the name answers, for a name alone and for any version of
-- it; no version is reported
abbrev pub WordsWithoutRecords : Type 0
WordsWithoutRecords =
    LoaderFinds without_records (codes "f") (first_f ++ found_1)
    × LoaderCosts without_records (codes "f") 698
    × LoaderFinds without_records (codes "f@V1") (first_f ++ found_1)
    × LoaderFinds without_records (codes "f@@V9") (first_f ++ found_1)
    × LoaderCosts without_records (codes "f@@V9") 698

-- nor are the versym entries checked: another link, another size of their entries, past the end of
-- the file
abbrev pub UnreadWordsAreUnchecked : Type 0
UnreadWordsAreUnchecked =
    LoaderFinds (with_bytes 0x418 (little 4 3) without_records) (codes "f") (first_f ++ found_1)
    × LoaderFinds (with_bytes 0x428 (little 8 4) without_records) (codes "f") (first_f ++ found_1)
    × LoaderFinds (with_bytes 0x408 (little 8 0x1000) without_records) (codes "f@V1") (first_f ++ found_1)

-- a section of records without a byte counts as none: of definitions, of both; the first of a type
-- decides, and a later one with bytes is not read
abbrev pub EmptyRecordsAreNone : Type 0
EmptyRecordsAreNone =
    LoaderFinds (with_bytes 0x450 (little 8 0) (with_bytes 0x474 (little 4 1) versioned_library)) (codes "f@V1") (first_f ++ found_1)
    × LoaderFinds (with_bytes 0x490 (little 8 0) (with_bytes 0x434 (little 4 1) versioned_library)) (codes "f@V9") (first_f ++ found_1)
    × LoaderFinds (with_bytes 0x490 (little 8 0) (with_bytes 0x450 (little 8 0) versioned_library)) (codes "f") (first_f ++ found_1)
    × LoaderFinds (with_bytes 0x4b4 (little 4 0x6ffffffd) (with_bytes 0x450 (little 8 0) (with_bytes 0x474 (little 4 1) versioned_library))) (codes "f@V9") (first_f ++ found_1)

-- one section of records with a byte is enough: needs next to definitions without one, and
-- definitions alone
abbrev pub EitherRecordsAreEnough : Type 0
EitherRecordsAreEnough =
    Fails (with_bytes 0x450 (little 8 0) versioned_library) (codes "f@V2") absent_2
    × Fails (with_bytes 0x450 (little 8 0) versioned_library) (codes "f") (codes "! 00000000000001a8 version-index\n")
    × LoaderFinds (with_bytes 0x474 (little 4 1) versioned_library) (codes "f@V1") (first_f ++ of_v1 ++ found_1)
    × LoaderFinds (with_bytes 0x490 (little 8 0) versioned_library) (codes "f") (second_f ++ of_v2 ++ found_2)
    × Fails (with_bytes 0x418 (little 4 3) (with_bytes 0x474 (little 4 1) versioned_library)) (codes "f") (codes "! 00000000000003f0 bad-link\n")

-- by the segments: the same without their entries, also if the entry of the versym table is of no
-- loaded address, and if the entries follow the first null one; entries of records count for any
-- contents
abbrev pub WordsWithoutRows : Type 0
WordsWithoutRows =
    LoaderFinds without_rows (codes "f") (first_by_segments ++ found_1)
    × LoaderCosts without_rows (codes "f") 490
    × LoaderFinds without_rows (codes "f@V9") (first_by_segments ++ found_1)
    × LoaderCosts without_rows (codes "f@V9") 490
    × LoaderFinds (with_bytes 0x298 (little 8 0x2f0) without_rows) (codes "f@@V1") (first_by_segments ++ found_1)
    × LoaderFinds (with_bytes 0x2a0 (little 8 0) versioned_without_sections) (codes "f@V9") (first_by_segments ++ found_1)
    × Fails (with_bytes 0x2a8 (little 8 0x2ef) (with_bytes 0x2c0 (little 8 0x63) versioned_without_sections)) (codes "f@V9") (codes "! 00000000000002a0 version-cut\n")
