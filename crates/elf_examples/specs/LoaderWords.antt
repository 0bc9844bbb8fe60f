-- The words in which the worked examples of a loader's lookups are stated.
use Rattle.std.specs.Prelude.{◌≡◌, ℕ, List, codes}
use Rattle.elf_model.specs.Prelude.{loader_answer, loader_cost, parse_query}
use Rattle.elf_model.specs.declared.formats.Format.TheVariants.{Columns}

-- a lookup in a file, with eight headers allowed, finds a symbol and writes these lines
abbrev pub LoaderFinds : List ℕ → List ℕ → List ℕ → Type 0
LoaderFinds file text lines = loader_answer Columns file 8 text ≡ record { text = lines; status = 0 }

-- it finds none, or is refused, and writes this line
abbrev pub Fails : List ℕ → List ℕ → List ℕ → Type 0
Fails file text line = loader_answer Columns file 8 text ≡ record { text = line; status = 1 }

-- it reads this many bytes
abbrev pub LoaderCosts : List ℕ → List ℕ → ℕ → Type 0
LoaderCosts file text cost = loader_cost file 8 (parse_query text) ≡ cost

-- the lines of the two symbols `f`, of `g`
abbrev pub first_f : List ℕ
first_f = codes "Y     2          3 00000000000002a8 0000000000000001 FUNC    GLOBAL DEFAULT       7 f\n"

abbrev pub second_f : List ℕ
second_f = codes "Y     2          4 00000000000002a9 0000000000000001 FUNC    GLOBAL DEFAULT       7 f\n"

abbrev pub only_g : List ℕ
only_g = codes "Y     2          2 00000000000002a0 0000000000000008 OBJECT  UNIQUE DEFAULT       7 g\n"

-- the lines of their versions
abbrev pub of_v1 : List ℕ
of_v1 = codes "X     4          3     2 H V1\n"

abbrev pub of_v2 : List ℕ
of_v2 = codes "X     4          4     3 - V2\n"

abbrev pub of_none : List ℕ
of_none = codes "X     4          2     1 - \n"

-- how many symbols are tried
abbrev pub found_1 : List ℕ
found_1 = codes "F found           1\n"

abbrev pub found_2 : List ℕ
found_2 = codes "F found           2\n"

abbrev pub absent_0 : List ℕ
absent_0 = codes "F absent          0\n"

abbrev pub absent_1 : List ℕ
absent_1 = codes "F absent          1\n"

abbrev pub absent_2 : List ℕ
absent_2 = codes "F absent          2\n"
