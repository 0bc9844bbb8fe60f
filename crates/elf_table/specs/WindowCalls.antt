-- The premises and effects of calls through a window.
use Rattle.std.specs.Prelude.{ℕ, ◌≡◌, ◌+◌, ◌≤◌, List, drop, Result, IfErr}
use Rattle.elf_source.specs.Prelude.{CountedState, ReadsOnward, ReadsUpTo, SourceState}
use Rattle.elf_table.specs.Faults.{IsOfRead, IsReadFault}
use Rattle.elf_table.specs.declared.fault.Fault.{Fault}
use Rattle.elf_table.specs.Windows.{WindowState, HoldsBytes, StillHolds, RangeWithin, MovesOn, bytes_left, frontier, range_end}

-- a window has `count` bytes left, in a range within a source of this size
pub record HasLeft (size : ℕ) (w : WindowState) (count : ℕ) : Type 0 where
  pub enough : count ≤ bytes_left w
  pub within : RangeWithin size w

-- bytes that are skipped: those of them that are not held are never read
pub record Skips (old new : WindowState) (count : ℕ) : Type 0 where
  pub page : new.page ≡ old.page
  pub at : new.at ≡ old.at + count
  pub left : bytes_left new + count ≡ bytes_left old
  pub unread : new.unread ≤ old.unread
  pub held : new.held ≡ drop count old.held
  pub end : range_end new ≡ range_end old
  pub agrees : (file : List ℕ) → HoldsBytes file old → HoldsBytes file new

-- THE EFFECT OF A CALL THROUGH A WINDOW, fault or not: it requests no more than the unread bytes,
-- going forward only, and its fault satisfies `IsReadFault`; the window moved on, and what it holds
-- is still the file's
pub record ReadsThroughWindow {X : Type 0} (one_read : SourceState → ℕ → ℕ → SourceState → Type 0) (before after : CountedState) (old new : WindowState) (result : Result X Fault) : Type 0 where
  pub reads : ReadsUpTo before after old.unread
  pub says : IfErr result (IsReadFault before after old.unread)
  pub moves : MovesOn old new before.asked after.asked
  pub onward : ReadsOnward one_read before.source after.source (frontier old) (frontier new)
  pub agrees : StillHolds before.seen.file old new

-- the effect of a read through a window: its fault is one of a read
pub record ReadsThrough {X : Type 0} (one_read : SourceState → ℕ → ℕ → SourceState → Type 0) (before after : CountedState) (old new : WindowState) (result : Result X Fault) : Type 0 where
  pub went : ReadsThroughWindow one_read before after old new result
  pub fault : IfErr result IsOfRead
