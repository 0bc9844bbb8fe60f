-- What a table of rows holds, and what a row does to it.
use Rattle.std.specs.Prelude.{ℕ, ◌≡◌, ◌≤◌, ◌<◌, ◌^◌, List, [], ◌∷◌, ◌++◌, length, Option, None, Some}
use Rattle.elf_model.specs.declared.link_states.LinkRow.{LinkRow}

-- the rows, and how many there is room for
pub record LinkRows : Type 0 where
  pub rows : List LinkRow
  pub most : ℕ

pub record KeepsLinkRows (count most room : ℕ) : Type 0 where
  pub within : count ≤ most
  pub fit : most ≤ room
  pub indexed : most < 2 ^ 32

-- A ROW ADDED: its index is the number of those before it
pub record AddedRow (old new : LinkRows) (row : LinkRow) (index : ℕ) : Type 0 where
  pub rows : new.rows ≡ old.rows ++ row ∷ []
  pub most : new.most ≡ old.most
  pub index_is : index ≡ length old.rows

abbrev pub AddsRow : LinkRows → LinkRows → LinkRow → Option ℕ → Type 0
AddsRow old new row (Some index) = AddedRow old new row index
AddsRow old new row None = (new ≡ old) × (length old.rows ≡ old.most)
