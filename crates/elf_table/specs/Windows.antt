-- What a window over a range of a file shows.
use Rattle.std.specs.Prelude.{ℕ, ◌≡◌, ◌+◌, ◌≤◌, ◌<◌, min, List, length, Option, Some, Result, Ok, Err}
use Rattle.elf_model.specs.Bytes.{slice}
use Rattle.elf_table.specs.declared.fault.Fault.{Fault}
use Rattle.elf_table.specs.Faults.{IsAt}

-- a window: the offset of the next byte, the bytes that it holds from there, how many bytes of its
-- range after those are not requested yet, and how many it holds at most
pub record WindowState : Type 0 where
  pub at : ℕ
  pub held : List ℕ
  pub unread : ℕ
  pub page : ℕ

-- how many bytes of the range are left
abbrev pub bytes_left : WindowState → ℕ
bytes_left w = length w.held + w.unread

-- the offset of the first byte that was never requested: no byte below it is requested again
abbrev pub frontier : WindowState → ℕ
frontier w = w.at + length w.held

-- the end of the range
abbrev pub range_end : WindowState → ℕ
range_end w = frontier w + w.unread

-- what a window holds is what the file has there
abbrev pub HoldsBytes : List ℕ → WindowState → Type 0
HoldsBytes file w = w.held ≡ slice file w.at (length w.held)

-- if the bytes held before a call agree with the source's file, so do those held afterwards
abbrev pub StillHolds : Option (List ℕ) → WindowState → WindowState → Type 0
StillHolds file old new = (bytes : List ℕ) → file ≡ Some bytes → HoldsBytes bytes old → HoldsBytes bytes new

-- a window that has bytes left ends within a source of this size
abbrev pub RangeWithin : ℕ → WindowState → Type 0
RangeWithin size w = 0 < bytes_left w → range_end w ≤ size

-- what every call keeps, fault or not: the end of the range is the same, the position moves
-- forward, and requested bytes are no longer unread
pub record MovesOn (old new : WindowState) (before after : ℕ) : Type 0 where
  pub same_page : new.page ≡ old.page
  pub same_end : range_end new ≡ range_end old
  pub onward : old.at ≤ new.at
  pub account : after + new.unread ≤ before + old.unread

-- a window that holds `count` bytes: it is unchanged if it held them, and otherwise it holds a
-- page, or all that are left
pub record HoldsCount (old new : WindowState) (count : ℕ) : Type 0 where
  pub stays : new.at ≡ old.at
  pub long : count ≤ length new.held
  pub unchanged : count ≤ length old.held → new ≡ old
  pub whole : length old.held < count → length new.held ≡ min old.page (bytes_left old)

-- a window was to hold `count` bytes; a fault is of a read of bytes that it did not hold, at the
-- first of them
abbrev pub Brings : {X : Type 0} → WindowState → WindowState → ℕ → Result X Fault → Type 0
Brings old new count (Ok x) = HoldsCount old new count
Brings old new count (Err fault) = (length old.held < count) × IsAt (frontier old) fault
