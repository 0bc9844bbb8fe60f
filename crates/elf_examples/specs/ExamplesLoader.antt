-- Worked examples of lookups as a loader does them: in a library with two versions of a function,
-- by its sections, by its segments, and in a hostile one.
use Rattle.std.specs.Prelude.{◌++◌, codes}
use Rattle.elf_model.specs.FixturesVersions.{versioned_library, versioned_without_sections, hostile_library}
use Rattle.elf_examples.specs.LoaderWords.{LoaderCosts, Fails, LoaderFinds, absent_0, absent_1, absent_2, first_f, found_1, found_2, of_none, of_v1, of_v2, only_g, second_f}

-- a library with two versions of `f`: the default one, each by its name, one that must be the
-- default one and is not, none of a name; symbols of the index 1 and of a version; names that the
-- table does not have
abbrev pub LibraryAnswers : Type 0
LibraryAnswers =
    LoaderFinds versioned_library (codes "f") (second_f ++ of_v2 ++ found_2)
    × LoaderFinds versioned_library (codes "f@V1") (first_f ++ of_v1 ++ found_1)
    × Fails versioned_library (codes "f@@V1") absent_2
    × LoaderFinds versioned_library (codes "f@V2") (second_f ++ of_v2 ++ found_2)
    × LoaderFinds versioned_library (codes "f@@V2") (second_f ++ of_v2 ++ found_2)
    × Fails versioned_library (codes "f@V3") absent_2
    × Fails versioned_library (codes "f@GLIBC_2.2.5") absent_2
    × LoaderFinds versioned_library (codes "g") (only_g ++ of_none ++ found_1)
    × Fails versioned_library (codes "g@libf.so") absent_1
    × LoaderFinds versioned_library (codes "h@V2") (codes "Y     2          5 00000000000002aa 0000000000000001 IFUNC   GLOBAL DEFAULT       7 h\n" ++ codes "X     4          5     3 - V2\n" ++ found_1)
    × Fails versioned_library (codes "puts") absent_0
    × Fails versioned_library (codes "nope") absent_0

-- what these lookups read
abbrev pub LibraryAsks : Type 0
LibraryAsks =
    LoaderCosts versioned_library (codes "f") 1196
    × LoaderCosts versioned_library (codes "f@V1") 1158
    × LoaderCosts versioned_library (codes "f@@V1") 1256
    × LoaderCosts versioned_library (codes "f@V2") 1252
    × LoaderCosts versioned_library (codes "f@@V2") 1252
    × LoaderCosts versioned_library (codes "f@V3") 1256
    × LoaderCosts versioned_library (codes "f@GLIBC_2.2.5") 1256
    × LoaderCosts versioned_library (codes "g") 698
    × LoaderCosts versioned_library (codes "g@libf.so") 1158
    × LoaderCosts versioned_library (codes "h@V2") 1166
    × LoaderCosts versioned_library (codes "puts") 604
    × LoaderCosts versioned_library (codes "nope") 604

-- the same library without section headers: the index of the segment of dynamic entries is in place
-- of sections
abbrev pub SegmentsAnswer : Type 0
SegmentsAnswer =
    LoaderFinds versioned_without_sections (codes "f") (codes "Y     1          4 00000000000002a9 0000000000000001 FUNC    GLOBAL DEFAULT       7 f\n" ++ codes "X     1          4     3 - V2\n" ++ found_2)
    × LoaderFinds versioned_without_sections (codes "f@V1") (codes "Y     1          3 00000000000002a8 0000000000000001 FUNC    GLOBAL DEFAULT       7 f\n" ++ codes "X     1          3     2 H V1\n" ++ found_1)
    × Fails versioned_without_sections (codes "f@@V1") absent_2
    × LoaderFinds versioned_without_sections (codes "f@V2") (codes "Y     1          4 00000000000002a9 0000000000000001 FUNC    GLOBAL DEFAULT       7 f\n" ++ codes "X     1          4     3 - V2\n" ++ found_2)
    × LoaderFinds versioned_without_sections (codes "f@@V2") (codes "Y     1          4 00000000000002a9 0000000000000001 FUNC    GLOBAL DEFAULT       7 f\n" ++ codes "X     1          4     3 - V2\n" ++ found_2)
    × Fails versioned_without_sections (codes "f@V3") absent_2
    × Fails versioned_without_sections (codes "f@GLIBC_2.2.5") absent_2
    × LoaderFinds versioned_without_sections (codes "g") (codes "Y     1          2 00000000000002a0 0000000000000008 OBJECT  UNIQUE DEFAULT       7 g\n" ++ codes "X     1          2     1 - \n" ++ found_1)
    × Fails versioned_without_sections (codes "g@libf.so") absent_1
    × LoaderFinds versioned_without_sections (codes "h@V2") (codes "Y     1          5 00000000000002aa 0000000000000001 IFUNC   GLOBAL DEFAULT       7 h\n" ++ codes "X     1          5     3 - V2\n" ++ found_1)
    × Fails versioned_without_sections (codes "puts") absent_0
    × Fails versioned_without_sections (codes "nope") absent_0

-- what these lookups read: program headers and dynamic entries in place of section headers
abbrev pub SegmentsAsk : Type 0
SegmentsAsk =
    LoaderCosts versioned_without_sections (codes "f") 988
    × LoaderCosts versioned_without_sections (codes "f@V1") 950
    × LoaderCosts versioned_without_sections (codes "f@@V1") 1048
    × LoaderCosts versioned_without_sections (codes "f@V2") 1044
    × LoaderCosts versioned_without_sections (codes "f@@V2") 1044
    × LoaderCosts versioned_without_sections (codes "f@V3") 1048
    × LoaderCosts versioned_without_sections (codes "f@GLIBC_2.2.5") 1048
    × LoaderCosts versioned_without_sections (codes "g") 490
    × LoaderCosts versioned_without_sections (codes "g@libf.so") 950
    × LoaderCosts versioned_without_sections (codes "h@V2") 958
    × LoaderCosts versioned_without_sections (codes "puts") 396
    × LoaderCosts versioned_without_sections (codes "nope") 396

-- a hostile library: the walk over the records stops once a name is found, chains of symbols end
-- with the symbols
abbrev pub HostileAnswers : Type 0
HostileAnswers =
    LoaderFinds hostile_library (codes "f") (second_f ++ of_v2 ++ found_2)
    × Fails hostile_library (codes "f@V1") (codes "! 00000000000001e8 version-cut\n")
    × LoaderFinds hostile_library (codes "g") (only_g ++ of_none ++ found_1)
    × Fails hostile_library (codes "h") (codes "! 00000000000001e8 version-cut\n")
    × Fails hostile_library (codes "nope") (codes "! 00000000000000dc hash-index\n")

-- what these lookups read
abbrev pub HostileAsks : Type 0
HostileAsks =
    LoaderCosts hostile_library (codes "f") 1196
    × LoaderCosts hostile_library (codes "f@V1") 880
    × LoaderCosts hostile_library (codes "g") 698
    × LoaderCosts hostile_library (codes "h") 790
    × LoaderCosts hostile_library (codes "nope") 616
