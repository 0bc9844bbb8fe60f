-- A writer that turns lines into a table.
use Rattle.std.specs.Prelude.{ℕ, ◌≡◌, ◌+◌, ◌<◌, if◌then◌else◌, Bool, true, false, List, Option, get_or}
use Rattle.std.specs.Io.KnownBytes.{Appends, append_known}
use Rattle.elf_model.specs.TableTexts.{state_at_end, table_from}
use Rattle.elf_model.specs.declared.formats.Format.{Format}
use Rattle.elf_model.specs.declared.formats.Format.TheVariants.{Columns, Object, Table}
use Rattle.elf_model.specs.declared.formats.TableState.{TableState}

-- lines of a format are written as a table
abbrev pub is_table : Format → Bool
is_table Table = true
is_table Columns = false
is_table Object = false

-- a writer: what the writer below it was given, whether it writes a table, and where in its lines
-- it is
pub record TableWriting : Type 0 where
  pub below : Option (List ℕ)
  pub is_table : Bool
  pub state : TableState

-- a writer as it is once rows that were collected are written
abbrev pub with_rows : TableWriting → (rows : List ℕ) → TableWriting
with_rows writer rows = record { below = append_known writer.below rows; is_table = writer.is_table; state = writer.state }

-- what bytes become
abbrev pub rendered : TableWriting → List ℕ → List ℕ
rendered old bytes = if old.is_table then table_from old.state bytes else bytes

-- and where the writer is after them
abbrev pub rendered_end : TableWriting → List ℕ → TableState
rendered_end old bytes = if old.is_table then state_at_end old.state bytes else old.state

-- the writer below was given what bytes become
pub record Renders (old new : TableWriting) (bytes : List ℕ) : Type 0 where
  pub appends : Appends old.below new.below (rendered old bytes)
  pub state : new.state ≡ rendered_end old bytes
  pub kind : new.is_table ≡ old.is_table

-- no byte before the last of the first ones is a newline
abbrev pub HasNoInnerNewline : List ℕ → (count : ℕ) → Type 0
HasNoInnerNewline bytes count = (k : ℕ) → k + 1 < count → get_or bytes k 0 ≡ 10 → ⊥
