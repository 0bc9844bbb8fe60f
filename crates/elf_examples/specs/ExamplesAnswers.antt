-- Worked examples of the texts and statuses of `find`.
use Rattle.std.specs.Prelude.{◌≡◌, ℕ, List, [], ◌∷◌, ◌++◌, codes}
use Rattle.elf_model.specs.Prelude.{find_answer, hash_file, hash_with_cycle, hash_with_end, one_symbol_table}
use Rattle.elf_model.specs.declared.formats.Format.TheVariants.{Columns, Object}
use Rattle.elf_examples.specs.ExamplesHash.{hash_comes_last}

-- the result of a lookup
abbrev pub LookupGives : List ℕ → List ℕ → List ℕ → ℕ → Type 0
LookupGives file wanted text status = find_answer Columns file 4 wanted ≡ record { text = text; status = status }

-- names that are found, also if the index of the symbol is not the number of names compared, and in
-- a section of symbols that is the first
abbrev pub FoundIsWritten : Type 0
FoundIsWritten =
    LookupGives hash_with_cycle (codes "a")
    (codes "Y     2          1 0000000000000010 0000000000000000 FUNC    GLOBAL DEFAULT   ABS   a\nF found           1\n") 0
    × LookupGives hash_with_cycle (codes "b")
    (codes "Y     2          2 0000000000000020 0000000000000000 FUNC    GLOBAL DEFAULT   ABS   b\nF found           2\n") 0
    × LookupGives (hash_file (1 ∷ 3 ∷ 2 ∷ 0 ∷ 0 ∷ 0 ∷ [])) (codes "b")
    (codes "Y     2          2 0000000000000020 0000000000000000 FUNC    GLOBAL DEFAULT   ABS   b\nF found           1\n") 0
    × LookupGives hash_comes_last (codes "a")
    (codes "Y     1          1 0000000000000010 0000000000000000 FUNC    GLOBAL DEFAULT   ABS   a\nF found           1\n") 0

-- a name that is not there
abbrev pub AbsentIsWritten : Type 0
AbsentIsWritten = LookupGives hash_with_end (codes "c") (codes "F absent          2\n") 1

-- what is refused, also a file with more headers than are allowed
abbrev pub RefusalIsWritten : Type 0
RefusalIsWritten =
    LookupGives hash_with_cycle (codes "c") (codes "! 0000000000000048 hash-cycle\n") 1
    × LookupGives one_symbol_table (codes "c") (codes "! 0000000000000028 no-hash\n") 1
    × (find_answer Columns hash_with_cycle 3 (codes "a") ≡ record { text = codes "! 000000000000003c too-many-headers\n"; status = 1 })

-- the same as objects
abbrev pub AnswersAreObjects : Type 0
AnswersAreObjects =
    (find_answer Object hash_with_cycle 4 (codes "a") ≡ record {
      text =
          codes "{\"line\":\"Y\",\"table\":2,\"index\":1,\"value\":16,\"size\":0,\"type\":\"FUNC\",\"binding\":\"GLOBAL\",\"visibility\":\"DEFAULT\",\"place\":\"ABS\",\"name\":\"a\"}\n"
          ++ codes "{\"line\":\"F\",\"answer\":\"found\",\"steps\":1}\n";
      status = 0;
    })
    × (find_answer Object hash_with_end 4 (codes "c") ≡ record { text = codes "{\"line\":\"F\",\"answer\":\"absent\",\"steps\":2}\n"; status = 1 })
    × (find_answer Object hash_with_cycle 4 (codes "c")
    ≡ record { text = codes "{\"line\":\"!\",\"place\":72,\"cause\":\"hash-cycle\"}\n"; status = 1 })
