-- A record as the list of its consecutive parts. The facts about each record's bytes are proved
-- once, for such lists.
use Rattle.std.specs.Prelude.{ℕ, zero, suc, ◌≡◌, ◌+◌, ◌^◌, ◌<◌, List, [], ◌∷◌, ◌++◌, length}
use Rattle.elf_model.specs.Bytes.{field, slice, little}

-- a number in a field of the given size in bytes, or bytes unchanged
pub data RecordField : Type 0 where
  Number : (width value : ℕ) → RecordField
  Raw : (width : ℕ) → (bytes : List ℕ) → RecordField

-- how many bytes a part has
abbrev pub width_of : RecordField → ℕ
width_of (Number width value) = width
width_of (Raw width bytes) = width

-- a part's bytes
abbrev pub part_spelling : RecordField → List ℕ
part_spelling (Number width value) = little width value
part_spelling (Raw width bytes) = bytes

-- a part fits in its bytes
abbrev pub PartFits : RecordField → Type 0
PartFits (Number width value) = value < 256 ^ width
PartFits (Raw width bytes) = length bytes ≡ width

-- an offset plus a distance
abbrev pub place : ℕ → ℕ → ℕ
place at zero = at
place at (suc k) = at + suc k

-- a part is in a file at an offset
abbrev pub PartStands : List ℕ → ℕ → RecordField → Type 0
PartStands file at (Number width value) = value ≡ field file at width
PartStands file at (Raw width bytes) = bytes ≡ slice file at width

-- the bytes of consecutive parts
abbrev pub spelling : List RecordField → List ℕ
spelling [] = []
spelling (part ∷ parts) = part_spelling part ++ spelling parts

-- the same, appended to bytes that are already there
abbrev pub joined_onto : List ℕ → List RecordField → List ℕ
joined_onto front [] = front
joined_onto front (part ∷ parts) = joined_onto (front ++ part_spelling part) parts

abbrev pub joined : List RecordField → List ℕ
joined parts = joined_onto [] parts

abbrev pub total_width : List RecordField → ℕ
total_width [] = 0
total_width (part ∷ parts) = width_of part + total_width parts

abbrev pub AllFit : List RecordField → Type 0
AllFit [] = Unit {0}
AllFit (part ∷ parts) = PartFits part × AllFit parts

-- parts are consecutive in a file, the first of them at this distance from an offset
abbrev pub FieldsAreAt : List ℕ → ℕ → ℕ → List RecordField → Type 0
FieldsAreAt file at k [] = Unit {0}
FieldsAreAt file at k (part ∷ parts) = PartStands file (place at k) part × FieldsAreAt file at (k + width_of part) parts
