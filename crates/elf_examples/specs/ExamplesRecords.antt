-- Worked examples of the version records in a loader's lookup: their flags, their strings, tables
-- of no bytes; and of gABI hash tables by segments, and of other machines.
use Rattle.std.specs.Prelude.{◌++◌, codes}
use Rattle.elf_model.specs.Prelude.{little, versioned_library, versioned_without_sections, with_bytes}
use Rattle.elf_examples.specs.LoaderWords.{Fails, LoaderFinds, absent_0, absent_2, first_f, found_1, found_2, of_v1, of_v2, second_f}

-- a definition with another flag than BASE names a version, and one with both does not
abbrev pub FlagsDecide : Type 0
FlagsDecide =
    LoaderFinds (with_bytes 0x1ce (little 2 2) versioned_library) (codes "f@V1") (first_f ++ of_v1 ++ found_1)
    × Fails (with_bytes 0x1ce (little 2 3) versioned_library) (codes "f@V1") absent_2

-- nothing is checked of a table of no bytes: of versym entries, whose size is too large; of
-- definitions without strings. One byte is enough
abbrev pub NothingIsCheckedOfNone : Type 0
NothingIsCheckedOfNone =
    Fails (with_bytes 0x428 (little 8 4) (with_bytes 0x410 (little 8 0) versioned_library)) (codes "f") (codes "! 00000000000003f0 version-cut\n")
    × Fails (with_bytes 0x458 (little 4 0) (with_bytes 0x450 (little 8 0) versioned_library)) (codes "f@V2") absent_2
    × Fails (with_bytes 0x458 (little 4 0) versioned_library) (codes "f@V2") (codes "! 0000000000000430 bad-link\n")

-- definitions and needs each have the strings that their section links to: those of the needs begin
-- one byte later here, so that the version of a need is LIBC_2.2.5, whose index is that of `f`
abbrev pub StringsAreTheirOwn : Type 0
StringsAreTheirOwn =
    let library = with_bytes 0x226 (little 2 3) (with_bytes 0x498 (little 4 7) (with_bytes 0x4b4 (little 4 3) (with_bytes 0x4c8 (little 8 0x171 ++ little 8 0x2f) versioned_library))) in
    LoaderFinds library (codes "f@LIBC_2.2.5") (second_f ++ codes "X     4          4     3 - LIBC_2.2.5\n" ++ found_2)
    × Fails library (codes "f@GLIBC_2.2.5") absent_2
    × LoaderFinds library (codes "f@V2") (second_f ++ of_v2 ++ found_2)

-- a gABI hash table by segments has its two counts in 8 bytes: one of 12 has a bucket too. In one
-- of 8 there is no bucket
abbrev pub SmallTablesBySegments : Type 0
SmallTablesBySegments =
    Fails (with_bytes 0x250 (little 8 4 ++ little 8 0x2e4) (with_bytes 0x2e4 (little 4 1) versioned_without_sections)) (codes "nope") absent_0
    × Fails (with_bytes 0x250 (little 8 4 ++ little 8 0x2e8) versioned_without_sections) (codes "nope") (codes "! 0000000000000250 hash-shape\n")

-- a symbol is found in a file of any machine; the section index of a large common symbol has its
-- name only for x86-64
abbrev pub MachinesName : Type 0
MachinesName =
    LoaderFinds (with_bytes 0x12 (little 2 183) versioned_library) (codes "f") (second_f ++ of_v2 ++ found_2)
    × LoaderFinds (with_bytes 0x146 (little 2 0xff02) versioned_library) (codes "f")
    (codes "Y     2          4 00000000000002a9 0000000000000001 FUNC    GLOBAL DEFAULT   LCOM  f\n" ++ of_v2 ++ found_2)
    × LoaderFinds (with_bytes 0x12 (little 2 183) (with_bytes 0x146 (little 2 0xff02) versioned_library)) (codes "f")
    (codes "Y     2          4 00000000000002a9 0000000000000001 FUNC    GLOBAL DEFAULT   65282 f\n" ++ of_v2 ++ found_2)
