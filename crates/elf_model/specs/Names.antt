-- Names in a string table (gABI 4, String Table). A string table is the list of its bytes.
use Rattle.std.specs.Prelude.{◌≡◌, ℕ, ◌+◌, ◌*◌, ◌/◌, ◌==◌, ◌&&◌, nat_lt, Bool, true, false, if◌then◌else◌, List, [], ◌∷◌, ◌++◌, length, take, drop, position, ◌⊎◌, Option, None, Some, Result, Ok, Err}
use Rattle.elf_model.specs.Bytes.{slice}
use Rattle.elf_model.specs.declared.causes.Cause.{Cause}
use Rattle.elf_model.specs.declared.causes.Cause.TheVariants.{NameOutside, NameUnended}

-- a name as it is shown: whole, or its first bytes
pub data DisplayedName : Type 0 where
  Whole : List ℕ → DisplayedName
  Cut : List ℕ → DisplayedName

-- the position of the first NUL
abbrev pub nul_in : List ℕ → Option ℕ
nul_in bytes = position (λ b. b == 0) bytes

-- the bytes are in a table at an index
abbrev pub IsNameBytesAt : List ℕ → ℕ → List ℕ → Type 0
IsNameBytesAt table index bytes = slice table index (length bytes) ≡ bytes

-- a name has no NUL, and is at an index with a NUL after it (gABI 4, String Table)
abbrev pub IsNulTerminatedAt : List ℕ → ℕ → List ℕ → Type 0
IsNulTerminatedAt table index name = (nul_in name ≡ None) × IsNameBytesAt table index (name ++ 0 ∷ [])

-- an empty string table has the empty name at index 0 (gABI 4, String Table)
abbrev pub IsEmptyAtZero : List ℕ → ℕ → Type 0
IsEmptyAtZero table index = (table ≡ []) × (index ≡ 0)

-- a string table has a name at an index
abbrev pub IsNameOf : List ℕ → ℕ → List ℕ → Type 0
IsNameOf table index name = IsNulTerminatedAt table index name ⊎ (IsEmptyAtZero table index × (name ≡ []))

-- the same as a test
abbrev pub is_empty_at_zero : List ℕ → ℕ → Bool
is_empty_at_zero table index = length table == 0 && index == 0

-- what is shown of the cap + 1 bytes at an index, fewer at the table's end, with the position of
-- their first NUL: the whole name before it; without one the first cap bytes, if there are more
abbrev pub shown_of : ℕ → List ℕ → Option ℕ → Result DisplayedName Cause
shown_of cap bytes (Some place) = Ok (Whole (take place bytes))
shown_of cap bytes None = if nat_lt cap (length bytes) then Ok (Cut (take cap bytes)) else Err NameUnended

-- the name at an index as it is shown with at most cap bytes
unfoldable pub shown : List ℕ → ℕ → ℕ → Result DisplayedName Cause
shown table index cap =
    let front = slice table index (cap + 1) in
    if is_empty_at_zero table index then Ok (Whole [])
    else if nat_lt index (length table) then shown_of cap front (nul_in front)
    else Err NameOutside

-- whether bytes begin with what is wanted, byte by byte up to the first that differs; unended if
-- they end before that
unfoldable pub begins : List ℕ → List ℕ → Result Bool Cause
begins bytes [] = Ok true
begins [] (w ∷ wanted) = Err NameUnended
begins (b ∷ bytes) (w ∷ wanted) = elim (b == w) [ true ↦ begins bytes wanted | false ↦ Ok false ]

-- whether the name at an index is the wanted one: the bytes there begin with it and a NUL. In an
-- empty table it is not at index 0; any other index that is not below the table's size is outside
unfoldable pub same : List ℕ → ℕ → List ℕ → Result Bool Cause
same table index wanted =
    if is_empty_at_zero table index then Ok false
    else if nat_lt index (length table) then begins (drop index table) (wanted ++ 0 ∷ [])
    else Err NameOutside

-- a number of bytes rounded up to pieces of 64
abbrev pub pad64 : ℕ → ℕ
pad64 n = 64 * ((n + 63) / 64)

-- the bytes that one shown name costs at most: cap + 1 rounded up to pieces of 64
abbrev pub name_bytes : ℕ → ℕ
name_bytes cap = pad64 (cap + 1)
