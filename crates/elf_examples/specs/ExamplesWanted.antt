-- Worked examples of what is wanted: a name and a version; and of long names of versions.
use Rattle.std.specs.Prelude.{◌≡◌, ℕ, ◌+◌, ◌*◌, true, false, List, [], ◌∷◌, ◌++◌, codes, replicate}
use Rattle.elf_model.specs.Prelude.{DefaultVersion, NoVersion, Version, find_answer, is_complete, little, loader_answer, loader_ceiling, parse_query, versioned_library, versioned_without_sections, with_bytes, words, zeros}
use Rattle.elf_model.specs.declared.formats.Format.TheVariants.{Columns, Object}
use Rattle.elf_examples.specs.LoaderWords.{LoaderFinds, LoaderCosts, second_f, found_2}

-- the text of a name alone, of a version after one sign and after two, and of versions that contain
-- such signs
abbrev pub TextsAreParted : Type 0
TextsAreParted =
    (parse_query (codes "f") ≡ record { name = codes "f"; asked = NoVersion })
    × (parse_query (codes "f@V1") ≡ record { name = codes "f"; asked = Version (codes "V1") })
    × (parse_query (codes "f@@V1") ≡ record { name = codes "f"; asked = DefaultVersion (codes "V1") })
    × (parse_query (codes "f@V@1") ≡ record { name = codes "f"; asked = Version (codes "V@1") })
    × (parse_query (codes "f@@@1") ≡ record { name = codes "f"; asked = DefaultVersion (codes "@1") })

-- an empty name, and an empty version
abbrev pub EmptyNamesAreNone : Type 0
EmptyNamesAreNone =
    (is_complete (parse_query []) ≡ false)
    × (is_complete (parse_query (codes "@V1")) ≡ false)
    × (is_complete (parse_query (codes "f@")) ≡ false)
    × (is_complete (parse_query (codes "f@@")) ≡ false)
    × (is_complete (parse_query (codes "f")) ≡ true)
    × (is_complete (parse_query (codes "f@V")) ≡ true)
    × (is_complete (parse_query (codes "f@@V")) ≡ true)

-- the library with other strings, after it: `f`, and this many letters that are the name of the
-- second version
unfoldable pub long_version : ℕ → List ℕ
long_version count =
    with_bytes 0x128 (little 4 1)
    (with_bytes 0x140 (little 4 1)
    (with_bytes 0x1e0 (little 4 1)
    (with_bytes 0x1fc (little 4 3)
    (with_bytes 0x228 (little 4 1)
    (with_bytes 0x3c8 (little 8 0x4f0 ++ little 8 304)
    (versioned_library ++ (0 ∷ 102 ∷ 0 ∷ replicate count 97) ++ zeros 301))))))

-- a name of 256 bytes is reported whole, one more is cut; the wanted one is reported whole
abbrev pub LongVersionsAreCut : Type 0
LongVersionsAreCut =
    LoaderFinds (long_version 256) (codes "f") (second_f ++ codes "X     4          4     3 - " ++ replicate 256 97 ++ codes "\n" ++ found_2)
    × LoaderFinds (long_version 257) (codes "f") (second_f ++ codes "X     4          4     3 - " ++ replicate 256 97 ++ codes "\\+\n" ++ found_2)
    × LoaderFinds (long_version 300) (codes "f@" ++ replicate 300 97)
    (second_f ++ codes "X     4          4     3 - " ++ replicate 300 97 ++ codes "\n" ++ found_2)

-- a wanted version is read in pieces of 64 bytes with each record, and a wanted name with each
-- symbol
abbrev pub LongNamesAsk : Type 0
LongNamesAsk =
    LoaderCosts (long_version 300) (codes "f@" ++ replicate 300 97) (604 + 188 + 5 * (28 + 320))
    × LoaderCosts (long_version 300) (codes "f@" ++ replicate 63 97) (604 + 192 + 5 * (28 + 64))
    × LoaderCosts (long_version 300) (codes "f@" ++ replicate 64 97) (604 + 192 + 5 * (28 + 128))
    × LoaderCosts (long_version 300) (codes "f") (604 + 188 + 3 * 28 + 320)
    × LoaderCosts (with_bytes 0x334 (little 4 5) (with_bytes 0xb0 (words (1 ∷ 6 ∷ 1 ∷ 0 ∷ 2 ∷ 3 ∷ 4 ∷ 5 ∷ 0 ∷ [])) versioned_library))
    (replicate 64 97) (604 + 5 * (4 + 26 + 128))
    × LoaderCosts (with_bytes 0xc0 (replicate 8 0xff) versioned_library) (replicate 64 97) (604 + 4 * 3)

-- the upper bound of what lookups read, by a file's length, the headers that are allowed, the name
-- and the version
abbrev pub LoaderCeilings : Type 0
LoaderCeilings =
    (loader_ceiling 1264 8 (parse_query (codes "f")) ≡ 92 + 512 + 1264 + 316 * (30 + 64) + 158 * 28 + 320)
    × (loader_ceiling 1264 8 (parse_query (codes "f@V1")) ≡ 92 + 512 + 1264 + 316 * (30 + 64) + 158 * (28 + 64) + 320)
    × (loader_ceiling 7 0 (parse_query (replicate 64 97)) ≡ 92 + 7 + 158 + 320)

-- the lookup of a name alone finds no gABI hash table in the library, with section headers or
-- without
abbrev pub OtherLookupsFindNoTable : Type 0
OtherLookupsFindNoTable =
    (find_answer Columns versioned_library 8 (codes "f") ≡ record { text = codes "! 0000000000000028 no-hash\n"; status = 1 })
    × (find_answer Columns versioned_without_sections 8 (codes "f") ≡ record { text = codes "! 0000000000000028 no-hash\n"; status = 1 })

-- a symbol, its version and the number as objects
abbrev pub LoaderAnswersAreObjects : Type 0
LoaderAnswersAreObjects =
    loader_answer Object versioned_library 8 (codes "f@V1") ≡ record {
      text =
          codes "{\"line\":\"Y\",\"table\":2,\"index\":3,\"value\":680,\"size\":1,\"type\":\"FUNC\",\"binding\":\"GLOBAL\",\"visibility\":\"DEFAULT\",\"place\":7,\"name\":\"f\"}\n"
          ++ codes "{\"line\":\"X\",\"table\":4,\"index\":3,\"number\":2,\"hidden\":\"H\",\"name\":\"V1\"}\n"
          ++ codes "{\"line\":\"F\",\"answer\":\"found\",\"steps\":1}\n";
      status = 0;
    }
