-- The names of members that are held for the rows of a link.
use Rattle.std.specs.Prelude.{ℕ, ◌≡◌, ◌+◌, List, [], ◌∷◌, ◌++◌, Option, None, Some}
use Rattle.elf_model.specs.LinkArchives.{name_in_archive}
use Rattle.elf_model.specs.Names.{DisplayedName}
use Rattle.elf_model.specs.declared.link_states.LinkRow.{LinkRow}
use Rattle.elf_resolve.specs.MemberNames.{RowName}

-- the names of the members of an archive, by the bytes of its file
unfoldable pub member_names : Option (List ℕ) → (member : ℕ) → DisplayedName
member_names file member = name_in_archive file member

-- a name was added for a row
abbrev pub AddsName : (old new : List RowName) → (row : ℕ) → DisplayedName → Type 0
AddsName old new row name = new ≡ old ++ (record { row = row; name = name }) ∷ []

-- the name that a row has: a member's
abbrev pub names_of_row : (named : ℕ → ℕ → DisplayedName) → (index input : ℕ) → (member : Option ℕ) → List RowName
names_of_row named index input None = []
names_of_row named index input (Some member) = (record { row = index; name = named input member }) ∷ []

-- THE NAMES OF ROWS from an index on, by the names of the members of inputs
abbrev pub names_of_rows : (named : ℕ → ℕ → DisplayedName) → (index : ℕ) → List LinkRow → List RowName
names_of_rows named index [] = []
names_of_rows named index (row ∷ rows) = names_of_row named index row.input row.member ++ names_of_rows named (index + 1) rows

-- the names that were held were those of the rows, and they still are, with members of one input added
pub record KeepsMemberNames (input : ℕ) (mine : ℕ → DisplayedName) (old new : List LinkRow) (held now : List RowName) : Type 0 where
  pub keeps : (named : ℕ → ℕ → DisplayedName) → named input ≡ mine → held ≡ names_of_rows named 0 old → now ≡ names_of_rows named 0 new

-- members are named as they were; and if they were known, the names held are still those of the rows
pub record HeldNames (input : ℕ) (known : Type 0) (mine after : ℕ → DisplayedName) (old new : List LinkRow) (held now : List RowName) : Type 0 where
  pub same : after ≡ mine
  pub keeps : known → KeepsMemberNames input mine old new held now
