-- What a cursor over a table yields, row by row.
use Rattle.std.specs.Prelude.{ℕ, ◌≡◌, ◌+◌, ◌-◌, ◌*◌, ◌/◌, Bool, true, false, List, length, Option, None, Some, Result, Ok, Err}
use Rattle.elf_model.specs.Bytes.{slice}
use Rattle.elf_table.specs.Tables.{TableRange, size_of}
use Rattle.elf_table.specs.declared.fault.Fault.{Fault}
use Rattle.elf_table.specs.Faults.{IsAt}
use Rattle.elf_table.specs.declared.row.Row.{Row}
use Rattle.elf_table.specs.Windows.{WindowState}

-- a cursor: its table, the index of the next row, how many rows are left to yield, how many bytes
-- are not requested yet, the bytes that it holds of the next rows, the bytes of the current row,
-- and the fault if it failed
pub record CursorState : Type 0 where
  pub table : TableRange
  pub index : ℕ
  pub left : ℕ
  pub unread : ℕ
  pub held : List ℕ
  pub row : List ℕ
  pub failed : Option Fault

-- the file offset of a row
abbrev pub row_at : TableRange → ℕ → ℕ
row_at table index = table.at + index * table.entry

-- the file offset of the next row
abbrev pub next_row : CursorState → ℕ
next_row c = row_at c.table c.index

-- how many bytes a cursor reads at once: whole rows
abbrev pub page_of : ℕ → ℕ
page_of entry = 4096 / entry * entry

-- a window is at the current row, which has `shown` bytes, and holds whole rows after it
pub record IsAtRow (table : TableRange) (index shown : ℕ) (w : WindowState) : Type 0 where
  pub its_place : w.at + shown ≡ row_at table index
  pub rows : ℕ
  pub whole : length w.held ≡ shown + rows * table.entry

-- a number, unless there is a fault
abbrev pub unless_failed : Option Fault → ℕ → ℕ
unless_failed None n = n
unless_failed (Some fault) n = 0

-- how many bytes a cursor may still request
abbrev pub unread_bytes : CursorState → ℕ
unread_bytes c = unless_failed c.failed c.unread

-- the offset of the first byte of its table that a cursor has not requested
abbrev pub asked_to : CursorState → ℕ
asked_to c = c.table.at + size_of c.table - c.unread

-- what a cursor holds of the next rows is what the file has there
abbrev pub HoldsRows : List ℕ → CursorState → Type 0
HoldsRows file c = c.held ≡ slice file (next_row c) (length c.held)

-- the last row that a cursor yielded, as it shows it
pub record ShowsRow (c : CursorState) (row : Row) : Type 0 where
  pub its_index : row.index + 1 ≡ c.index
  pub its_offset : row.at ≡ row_at c.table row.index
  pub its_bytes : row.bytes.now ≡ c.row

-- a step that yields the next row: if the source has a file, it is the file's
pub record GivesRow (file : Option (List ℕ)) (old new : CursorState) : Type 0 where
  pub same_table : new.table ≡ old.table
  pub not_failed : old.failed ≡ None
  pub still_not_failed : new.failed ≡ None
  pub next_index : new.index ≡ old.index + 1
  pub one_less : new.left + 1 ≡ old.left
  pub whole : length new.row ≡ old.table.entry
  pub agrees : (bytes : List ℕ) → file ≡ Some bytes → HoldsRows bytes old → HoldsRows bytes new
  pub exact : (bytes : List ℕ) → file ≡ Some bytes → HoldsRows bytes old → new.row ≡ slice bytes (next_row old) old.table.entry

-- a step past the last row
pub record EndsRows (old new : CursorState) : Type 0 where
  pub unchanged : new ≡ old
  pub not_failed : old.failed ≡ None
  pub none_left : old.left ≡ 0

-- a step that fails, at the next row if it is the first that does
pub record FailsRows (old new : CursorState) (fault : Fault) : Type 0 where
  pub same_table : new.table ≡ old.table
  pub failed : new.failed ≡ Some fault
  pub at_next : old.failed ≡ None → IsAt (next_row old) fault

-- a step of a cursor that returns whether it yielded a row
abbrev pub Advances : Option (List ℕ) → CursorState → CursorState → Result Bool Fault → Type 0
Advances file old new (Ok true) = GivesRow file old new
Advances file old new (Ok false) = EndsRows old new
Advances file old new (Err fault) = FailsRows old new fault

-- a step of a cursor that returns the row
abbrev pub Steps : Option (List ℕ) → CursorState → CursorState → Result (Option Row) Fault → Type 0
Steps file old new (Ok (Some row)) = GivesRow file old new × ShowsRow new row
Steps file old new (Ok None) = EndsRows old new
Steps file old new (Err fault) = FailsRows old new fault
