-- Worked examples of names in string tables.
use Rattle.std.specs.Prelude.{◌≡◌, ℕ, List, [], ◌∷◌, ◌++◌, codes, true, false, Ok, Err}
use Rattle.elf_model.specs.Prelude.{Cut, name_bytes, same, shown, zeros}
use Rattle.elf_model.specs.declared.causes.Cause.TheVariants.{NameOutside, NameUnended}
use Rattle.elf_model.specs.Names.DisplayedName.{Whole}

-- one name with a NUL on either side
abbrev pub one_name : List ℕ
one_name = 0 ∷ codes "abc" ++ zeros 1

-- a name with no NUL after it
abbrev pub open_name : List ℕ
open_name = 0 ∷ codes "abc"

-- a name of exactly cap bytes is whole, a longer one is cut to cap bytes
abbrev pub NameAtCap : Type 0
NameAtCap = (shown one_name 1 3 ≡ Ok (Whole (codes "abc"))) × (shown one_name 1 2 ≡ Ok (Cut (codes "ab")))

-- a name may begin inside another, and at a NUL is the empty name
abbrev pub NameInsideAnother : Type 0
NameInsideAnother = (shown one_name 3 3 ≡ Ok (Whole (codes "c"))) × (shown one_name 0 3 ≡ Ok (Whole [])) × (shown one_name 4 3 ≡ Ok (Whole []))

-- an index that is not below the table's size is outside
abbrev pub NameOutsideTable : Type 0
NameOutsideTable = shown one_name 5 3 ≡ Err NameOutside

-- a name without a NUL before the table's end is unended, or cut if it is longer than cap
abbrev pub NameUnendedOrCut : Type 0
NameUnendedOrCut = (shown open_name 1 3 ≡ Err NameUnended) × (shown open_name 1 2 ≡ Ok (Cut (codes "ab")))

-- an empty string table has the empty name only at index 0
abbrev pub NameInEmptyTable : Type 0
NameInEmptyTable = (shown [] 0 3 ≡ Ok (Whole [])) × (shown [] 1 3 ≡ Err NameOutside)

-- a name is compared with its NUL: neither a prefix of it nor a longer name is the same
abbrev pub NameCompared : Type 0
NameCompared =
    (same one_name 1 (codes "abc") ≡ Ok true) × (same one_name 1 (codes "ab") ≡ Ok false)
    × (same one_name 1 (codes "abcd") ≡ Ok false) × (same one_name 1 (codes "abd") ≡ Ok false)

-- a comparison ends at the table's end, if all bytes are equal so far, or at the first other byte
abbrev pub NameComparedAtEnd : Type 0
NameComparedAtEnd =
    (same open_name 1 (codes "abc") ≡ Err NameUnended) × (same open_name 1 (codes "abcd") ≡ Err NameUnended)
    × (same open_name 1 (codes "abd") ≡ Ok false) × (same one_name 5 (codes "a") ≡ Err NameOutside)
    × (same [] 0 (codes "a") ≡ Ok false) × (same [] 1 (codes "a") ≡ Err NameOutside)

-- a shown name costs pieces of 64 bytes, for cap + 1 bytes
abbrev pub NameBytes : Type 0
NameBytes = (name_bytes 1 ≡ 64) × (name_bytes 63 ≡ 64) × (name_bytes 64 ≡ 128) × (name_bytes 4096 ≡ 4160)
