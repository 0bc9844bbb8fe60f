-- What is true of every string table: the laws of names.
use Rattle.std.specs.Prelude.{◌≡◌, ◌≢◌, ℕ, ◌+◌, ◌%◌, ◌<◌, ◌≤◌, true, false, List, [], ◌∷◌, ◌++◌, length, get_or, take, drop, ◌⊎◌, ◌↔◌, None, Ok, Err}
use Rattle.elf_model.specs.Bytes.{slice}
use Rattle.elf_model.specs.Names.{nul_in, IsEmptyAtZero, IsNameOf, shown, same, pad64}
use Rattle.elf_model.specs.Names.DisplayedName.{Whole, Cut}
use Rattle.elf_model.specs.declared.causes.Cause.{Cause}
use Rattle.elf_model.specs.declared.causes.Cause.TheVariants.{NameOutside, NameUnended}

-- a table has at most one name at an index
abbrev pub OneNameAtMost : Type 0
OneNameAtMost = (table : List ℕ) (index : ℕ) (a b : List ℕ) → IsNameOf table index a → IsNameOf table index b → a ≡ b

-- a name is shown whole exactly if it is the name at the index and has no more than cap bytes
abbrev pub ShownWholeExactly : Type 0
ShownWholeExactly =
    (table : List ℕ) (index cap : ℕ) (name : List ℕ)
    → (shown table index cap ≡ Ok (Whole name)) ↔ (IsNameOf table index name × (length name ≤ cap))

-- the first cap bytes are shown exactly if the cap + 1 bytes at the index are in the table and have
-- no NUL
abbrev pub ShownCutExactly : Type 0
ShownCutExactly =
    (table : List ℕ) (index cap : ℕ) (front : List ℕ)
    → (shown table index cap ≡ Ok (Cut front))
    ↔ ((index + cap < length table) × (nul_in (slice table index (cap + 1)) ≡ None) × (front ≡ slice table index cap))

-- an index is past the table's bytes; index 0 of an empty table is the empty name's
abbrev pub IsNameOutside : List ℕ → ℕ → Type 0
IsNameOutside table index = (length table ≤ index) × (IsEmptyAtZero table index → ⊥)

-- a name is outside exactly if its index is
abbrev pub ShownOutsideExactly : Type 0
ShownOutsideExactly = (table : List ℕ) (index cap : ℕ) → (shown table index cap ≡ Err NameOutside) ↔ IsNameOutside table index

-- a name is unended exactly if no more than cap bytes are left and none is a NUL
abbrev pub ShownUnendedExactly : Type 0
ShownUnendedExactly =
    (table : List ℕ) (index cap : ℕ)
    → (shown table index cap ≡ Err NameUnended)
    ↔ ((index < length table) × (length table ≤ index + cap) × (nul_in (drop index table) ≡ None))

-- a name has no other cause
abbrev pub ShownCauses : Type 0
ShownCauses =
    (table : List ℕ) (index cap : ℕ) (cause : Cause)
    → shown table index cap ≡ Err cause → (cause ≡ NameOutside) ⊎ (cause ≡ NameUnended)

-- what can be looked up: at least one byte, and no NUL
abbrev pub IsWanted : List ℕ → Type 0
IsWanted wanted = (0 < length wanted) × (nul_in wanted ≡ None)

-- a name is the same exactly if it is the name at the index
abbrev pub SameExactly : Type 0
SameExactly =
    (table : List ℕ) (index : ℕ) (wanted : List ℕ) → IsWanted wanted
    → (same table index wanted ≡ Ok true) ↔ IsNameOf table index wanted

-- two lists differ at some position that both have
abbrev pub Differ : List ℕ → List ℕ → Type 0
Differ a b = (k : ℕ) × (k < length a) × (k < length b) × (get_or a k 0 ≢ get_or b k 0)

-- a name is another exactly if a byte of it or its NUL differs, or if the table is empty and the
-- index 0
abbrev pub SameNotExactly : Type 0
SameNotExactly =
    (table : List ℕ) (index : ℕ) (wanted : List ℕ)
    → (same table index wanted ≡ Ok false) ↔ (Differ (drop index table) (wanted ++ 0 ∷ []) ⊎ IsEmptyAtZero table index)

-- a comparison is outside exactly if the index is
abbrev pub SameOutsideExactly : Type 0
SameOutsideExactly =
    (table : List ℕ) (index : ℕ) (wanted : List ℕ) → (same table index wanted ≡ Err NameOutside) ↔ IsNameOutside table index

-- a comparison is unended exactly if the table ends before the name and its NUL, with all bytes
-- equal so far
abbrev pub SameUnendedExactly : Type 0
SameUnendedExactly =
    (table : List ℕ) (index : ℕ) (wanted : List ℕ)
    → (same table index wanted ≡ Err NameUnended)
    ↔ ((index < length table) × (length (drop index table) ≤ length wanted)
    × (drop index table ≡ take (length (drop index table)) wanted))

-- a comparison has no other cause
abbrev pub SameCauses : Type 0
SameCauses =
    (table : List ℕ) (index : ℕ) (wanted : List ℕ) (cause : Cause)
    → same table index wanted ≡ Err cause → (cause ≡ NameOutside) ⊎ (cause ≡ NameUnended)

-- pieces of 64 that hold n bytes, and no more than they need
abbrev pub PadsToPieces : Type 0
PadsToPieces = (n : ℕ) → (n ≤ pad64 n) × (pad64 n < n + 64) × (pad64 n % 64 ≡ 0)
