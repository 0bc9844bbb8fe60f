-- Worked examples of a loader's lookup by the program headers in a file with section headers; and
-- of hash tables with words of 8 bytes, as Alpha's files have them.
use Rattle.std.specs.Prelude.{[], ◌∷◌, ◌++◌, ℕ, List, codes, true}
use Rattle.elf_model.specs.Prelude.{little, looked_at, versioned_library, versioned_without_sections, with_bytes, words}
use Rattle.elf_examples.specs.LoaderWords.{LoaderCosts, Fails, LoaderFinds, found_2, of_v2, second_f}

-- a lookup by the program headers
abbrev pub FindsBySegments : List ℕ → List ℕ → List ℕ → Type 0
FindsBySegments file text lines = LoaderFinds (looked_at true file) text lines

abbrev pub FailsBySegments : List ℕ → List ℕ → List ℕ → Type 0
FailsBySegments file text line = Fails (looked_at true file) text line

abbrev pub AsksBySegments : List ℕ → List ℕ → ℕ → Type 0
AsksBySegments file text cost = LoaderCosts (looked_at true file) text cost

abbrev pub second_with_v2 : List ℕ
second_with_v2 =
    codes "Y     1          4 00000000000002a9 0000000000000001 FUNC    GLOBAL DEFAULT       7 f\n" ++ codes "X     1          4     3 - V2\n" ++ found_2

-- the library answers as it does without section headers, for any section headers: no hash table, a
-- table of other symbols, more headers than are allowed, a number of them that is stored elsewhere,
-- and section names that are no strings
abbrev pub SectionsAreNotLookedAt : Type 0
SectionsAreNotLookedAt =
    FindsBySegments versioned_library (codes "f") second_with_v2
    × AsksBySegments versioned_library (codes "f") 988
    × FindsBySegments versioned_without_sections (codes "f") second_with_v2
    × FindsBySegments (with_bytes 0x334 (little 4 1) versioned_library) (codes "f") second_with_v2
    × FindsBySegments (with_bytes 0x348 (little 8 0x1b0) versioned_library) (codes "f") second_with_v2
    × Fails (with_bytes 0x3c (little 2 9) versioned_library) (codes "f") (codes "! 000000000000003c too-many-headers\n")
    × FindsBySegments (with_bytes 0x3c (little 2 9) versioned_library) (codes "f") second_with_v2
    × Fails (with_bytes 0x3c (little 2 0) versioned_library) (codes "f") (codes "! 000000000000003c extended-numbering\n")
    × FindsBySegments (with_bytes 0x3c (little 2 0) versioned_library) (codes "f") second_with_v2
    × FindsBySegments (with_bytes 0x3e (little 2 0xffff) versioned_library) (codes "f") second_with_v2

-- what is refused is what would be refused without section headers
abbrev pub SegmentsAreChecked : Type 0
SegmentsAreChecked =
    FailsBySegments (with_bytes 0x4 (little 1 1) versioned_library) (codes "f") (codes "! 0000000000000004 class\n")
    × FailsBySegments (with_bytes 0x38 (little 2 9) versioned_library) (codes "f") (codes "! 0000000000000038 too-many-headers\n")
    × FailsBySegments (with_bytes 0x78 (little 4 0) versioned_library) (codes "f") (codes "! 0000000000000020 no-hash\n")
    × AsksBySegments (with_bytes 0x78 (little 4 0) versioned_library) (codes "f") 204
    × FailsBySegments (with_bytes 0xb0 (little 4 0) versioned_library) (codes "f") (codes "! 0000000000000250 hash-shape\n")

-- the library as a file of Alpha, with a gABI hash table whose words have 8 bytes by its header,
-- and 4
abbrev pub alpha : List ℕ → List ℕ
alpha file = with_bytes 0x12 (little 2 0x9026) file

-- words of 8 bytes are refused only in Alpha's files, and only in gABI tables; if their size is not
-- given, by the segments, in all of Alpha's
abbrev pub WideWordsOfViewsAreRefused : Type 0
WideWordsOfViewsAreRefused =
    Fails (alpha (with_bytes 0x368 (little 8 8) (with_bytes 0x334 (little 4 5) versioned_library))) (codes "f") (codes "! 0000000000000330 hash-shape\n")
    × LoaderCosts (alpha (with_bytes 0x368 (little 8 8) (with_bytes 0x334 (little 4 5) versioned_library))) (codes "f") 604
    × LoaderFinds (with_bytes 0xb0 (words (1 ∷ 6 ∷ 1 ∷ 0 ∷ 2 ∷ 3 ∷ 4 ∷ 5 ∷ 0 ∷ [])) (with_bytes 0x368 (little 8 8) (with_bytes 0x334 (little 4 5) versioned_library))) (codes "f") (second_f ++ of_v2 ++ codes "F found           4\n")
    × LoaderFinds (alpha (with_bytes 0xb0 (words (1 ∷ 6 ∷ 1 ∷ 0 ∷ 2 ∷ 3 ∷ 4 ∷ 5 ∷ 0 ∷ [])) (with_bytes 0x368 (little 8 4) (with_bytes 0x334 (little 4 5) versioned_library)))) (codes "f") (second_f ++ of_v2 ++ codes "F found           4\n")
    × LoaderFinds (alpha (with_bytes 0x368 (little 8 8) versioned_library)) (codes "f") (second_f ++ of_v2 ++ found_2)
    × Fails (alpha (with_bytes 0x250 (little 8 4) versioned_without_sections)) (codes "f") (codes "! 0000000000000250 hash-shape\n")
    × LoaderFinds (alpha versioned_without_sections) (codes "f") second_with_v2
