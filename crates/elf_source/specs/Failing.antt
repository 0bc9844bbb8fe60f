-- A source one of whose reads fails, and one that reads from two files in turn.
use Rattle.std.specs.Prelude.{ℕ, ◌+◌, List, length, Option, None, Some}
use Rattle.elf_source.specs.Source.{SourceState, unknown}

-- the state of the source that reads are passed on to, and how many more reads come before the one
-- that fails; None after it
pub record Failing : Type 0 where
  pub source : SourceState
  pub due : Option ℕ

-- how many reads failed by injection
abbrev own_failures : Option ℕ → ℕ
own_failures None = 1
own_failures (Some n) = 0

-- its state: the other source's size and file, and one failure more after the read that fails
abbrev pub seen_failing : Failing → SourceState
seen_failing f = record { size = f.source.size; failures = f.source.failures + own_failures f.due; file = f.source.file; sized = f.source.sized; whole = f.source.whole }

-- the bytes that the next read returns, and those that the read after it returns
pub record Turning : Type 0 where
  pub next : List ℕ
  pub other : List ℕ

-- its state: a size, no failure and no file
abbrev pub seen_turning : Turning → SourceState
seen_turning t = unknown (length t.next) 0
