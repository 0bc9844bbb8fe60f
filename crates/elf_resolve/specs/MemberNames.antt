-- The names of members by their rows.
use Rattle.std.specs.Prelude.{ℕ, Bool, false, get_or, ◌≡◌, ◌+◌, ◌^◌, ◌<◌, ◌≤◌, ◌==◌, if◌then◌else◌, List, [], ◌∷◌, ◌++◌, length, map, Option, None, Some, Result, Ok, Err}
use Rattle.std.specs.List.Sorted.{IsStrictlyIncreasing}
use Rattle.elf_archive.specs.Members.{extent_of}
use Rattle.elf_archive.specs.declared.member.FileRange.{FileRange as Place}
use Rattle.elf_model.specs.Archive.{FileRange, member_data, member_name}
use Rattle.elf_model.specs.Bytes.{slice}
use Rattle.elf_model.specs.LinkArchives.{LINK_NAME_BYTES}
use Rattle.elf_model.specs.Names.{DisplayedName}
use Rattle.elf_model.specs.Names.DisplayedName.{Whole}
use Rattle.elf_model.specs.ShownNames.{shown_as}
use Rattle.elf_model.specs.declared.causes.Cause.{Cause}
use Rattle.elf_model.specs.declared.link_states.LinkCause.TheVariants as cause
use Rattle.elf_model.specs.declared.link_states.LinkRefusal.{LinkRefusal}
use Rattle.elf_resolve.specs.Taken.{IsLinkFault}
use Rattle.elf_resolve.specs.declared.link_faults.LinkFault.{LinkFault}
use Rattle.elf_resolve.specs.declared.member_names.NamePlace.{NamePlace}
use Rattle.elf_resolve.specs.declared.string_buffer.HeldText.{HeldText}

-- the name of the member that has a row, as it is shown
pub record RowName : Type 0 where
  pub row : ℕ
  pub name : DisplayedName

abbrev pub row_of_name : RowName → ℕ
row_of_name name = name.row

-- the name of a row, which is empty if it has none
abbrev pub name_of_row_in : List RowName → (row : ℕ) → DisplayedName
name_of_row_in [] row = Whole []
name_of_row_in (name ∷ names) row = if name.row == row then name.name else name_of_row_in names row

-- the rows of names ascend
abbrev pub RowsAscend : List RowName → Type 0
RowsAscend names = IsStrictlyIncreasing (map row_of_name names)

-- a name by its place in some bytes, which have all of it
abbrev pub name_at_place : List ℕ → NamePlace → RowName
name_at_place bytes place = record { row = place.row; name = shown_as place.is_cut (slice bytes place.name.start place.name.size) }

abbrev pub row_of_place : NamePlace → ℕ
row_of_place place = place.row

-- the first place of a row, or that of an empty name
abbrev pub place_in : List NamePlace → (row : ℕ) → NamePlace
place_in [] row = record { row = row; name = record { start = 0; size = 0 }; is_cut = false }
place_in (place ∷ places) row = if place.row == row then place else place_in places row

-- an index is that of the first number not below another
pub record IsFirstFrom (rows : List ℕ) (row index : ℕ) : Type 0 where
  pub within : index ≤ length rows
  pub before : (k : ℕ) → k < index → get_or rows k 0 < row
  pub after : (k : ℕ) → index ≤ k → k < length rows → row ≤ get_or rows k 0

-- bytes are appended to others, or there is no room for them
abbrev pub AppendsName : (old new name : List ℕ) → Option HeldText → Type 0
AppendsName old new name (Some text) = (new ≡ old ++ name) × (text ≡ record { start = length old; size = length name })
AppendsName old new name None = new ≡ old

abbrev pub IsNamePlaceIn : (size : ℕ) → NamePlace → Type 0
IsNamePlaceIn size place = place.name.start + place.name.size ≤ size

-- why a member has no data, or no name
abbrev pub unnamed_refusal : (at : ℕ) → Result DisplayedName Cause → Option LinkRefusal
unnamed_refusal at (Ok name) = None
unnamed_refusal at (Err other) = Some (record { at = at; cause = cause.Refused other })

abbrev pub named_refusal : (at : ℕ) → Result FileRange Cause → Result DisplayedName Cause → Option LinkRefusal
named_refusal at (Err other) named = Some (record { at = at; cause = cause.Refused other })
named_refusal at (Ok extent) named = unnamed_refusal at named

-- THE DATA AND THE NAME of the member whose header is at an offset
pub record NamedMember (file : List ℕ) (table : Option FileRange) (at : ℕ) (extent : FileRange) (name : DisplayedName) : Type 0 where
  pub data_are : member_data file at ≡ Ok extent
  pub named : member_name file LINK_NAME_BYTES table at ≡ Ok name

abbrev pub ReadsNamedMember : List ℕ → (table : Option FileRange) → (at : ℕ) → (name : List ℕ) → Result (Place × Bool) LinkFault → Type 0
ReadsNamedMember file table at name (Ok read) = NamedMember file table at (extent_of read.0) (shown_as read.1 name)
ReadsNamedMember file table at name (Err fault) = length file < 2 ^ 63 → IsLinkFault (named_refusal at (member_data file at) (member_name file LINK_NAME_BYTES table at)) fault

-- A NAME READ for a row is the last one
pub record ReadMemberName (file : List ℕ) (table : Option FileRange) (at row : ℕ) (old new : List RowName) (extent : FileRange) : Type 0 where
  pub name : DisplayedName
  pub member : NamedMember file table at extent name
  pub added : new ≡ old ++ (record { row = row; name = name }) ∷ []

pub record NotReadMemberName (file : List ℕ) (table : Option FileRange) (at : ℕ) (old new : List RowName) (fault : LinkFault) : Type 0 where
  pub same : new ≡ old
  pub refused : length file < 2 ^ 63 → IsLinkFault (named_refusal at (member_data file at) (member_name file LINK_NAME_BYTES table at)) fault

abbrev pub ReadsMemberName : List ℕ → (table : Option FileRange) → (at row : ℕ) → (old new : List RowName) → Result Place LinkFault → Type 0
ReadsMemberName file table at row old new (Ok place) = ReadMemberName file table at row old new (extent_of place)
ReadsMemberName file table at row old new (Err fault) = NotReadMemberName file table at old new fault
