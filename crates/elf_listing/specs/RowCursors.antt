-- What a cursor over the listed rows of a table gives, row by row.
use Rattle.std.specs.Prelude.{ℕ, suc, ◌≡◌, Bool, true, false, List, Option, None, Some, Result, Ok, Err}
use Rattle.elf_note.specs.DynCursors.{entries_left}
use Rattle.elf_table.specs.Prelude.{CursorState, FailsRows, GivesRow, HoldsRows}
use Rattle.elf_table.specs.declared.fault.Fault.{Fault}
use Rattle.elf_listing.specs.declared.row_cursor.RowCursor.{RowCursor}
use Rattle.elf_listing.specs.declared.row_cursor.RowCursor.TheVariants.{All, Entries}

-- the cursor over the rows of the table
abbrev pub reading : RowCursor → CursorState
reading (All cursor) = cursor
reading (Entries entries) = entries.cursor

-- how many rows of a file are left
abbrev pub rows_to_give : List ℕ → RowCursor → ℕ
rows_to_give file (All cursor) = cursor.left
rows_to_give file (Entries entries) = entries_left file entries

-- a step that reads the next listed row
pub record GivesListed (file : Option (List ℕ)) (old new : RowCursor) : Type 0 where
  pub gives : GivesRow file (reading old) (reading new)
  pub one_less : (bytes : List ℕ) → file ≡ Some bytes → HoldsRows bytes (reading old) → rows_to_give bytes old ≡ suc (rows_to_give bytes new)

-- a step after the last row
pub record EndsListed (old new : RowCursor) : Type 0 where
  pub unchanged : new ≡ old
  pub not_failed : (reading old).failed ≡ None
  pub none_left : (bytes : List ℕ) → rows_to_give bytes old ≡ 0

-- a step of a cursor that returns whether there was a row
abbrev pub AdvancesRows : Option (List ℕ) → RowCursor → RowCursor → Result Bool Fault → Type 0
AdvancesRows file old new (Ok true) = GivesListed file old new
AdvancesRows file old new (Ok false) = EndsListed old new
AdvancesRows file old new (Err fault) = FailsRows (reading old) (reading new) fault
