-- What is passed to a sink, and what it took.
use Rattle.std.specs.Prelude.{◌≡◌, ℕ, ◌+◌, ◌-◌, ◌^◌, ◌<◌, ◌≤◌, ◌==◌, ◌⊎◌, if◌then◌else◌, Bool, true, false, List, [], ◌∷◌, ◌++◌, Option, None, Some, Result, Ok, Err, min, length, take}
use Rattle.std.specs.Io.KnownBytes.{Appends, append_known}
use Rattle.elf_source.specs.declared.faults.OutFault.{OutFault}
use Rattle.elf_source.specs.declared.holding_sink.DeferredLine.{DeferredLine}

-- a slice that is written from its start: the bytes written, how many bytes are free, whether a
-- take failed
pub record FrontSlice : Type 0 where
  pub written : List ℕ
  pub free : ℕ
  pub failed : Bool

-- a writer below a sink, and whether the sink has failed
pub record Writing (W : Type 0) : Type 0 where
  pub writer : W
  pub failed : Bool

-- how much of the room is free for bytes to be held after others: none if some of these were
-- written
abbrev pub free_after : (from to room : ℕ) → ℕ
free_after from to room = if from == 0 then room - to else 0

-- a sink that holds no bytes back
abbrev pub nothing_held : ℕ
nothing_held = 0

-- a sink that may hold bytes back: what the sink below it took, the held bytes, the room for them,
-- how much of it is free, and whether a take failed
pub record DeferredState : Type 0 where
  pub below : Option (List ℕ)
  pub held : List ℕ
  pub room : ℕ
  pub free : ℕ
  pub failed : Bool

-- it holds as many of these bytes as fit, after those that it held; none exactly if no room is
-- free, and then nothing changes
abbrev pub KeepsPart : DeferredState → DeferredState → Option ℕ → List ℕ → Type 0
KeepsPart old new None bytes = (new ≡ old) × (old.free ≡ 0)
KeepsPart old new (Some count) bytes =
    (0 < count) × (count ≡ min old.free (length bytes)) × (new.below ≡ old.below) × (new.held ≡ old.held ++ take count bytes)
    × (new.room ≡ old.room) × (new.free ≡ old.free - count)

-- it holds a line after what it holds, with room for one byte more; nothing changes exactly if
-- there is no room
abbrev pub HoldsIf : Bool → DeferredState → DeferredState → List ℕ → Type 0
HoldsIf true old new line =
    (length line < old.free) × (new.below ≡ old.below) × (new.held ≡ old.held ++ line) × (new.room ≡ old.room)
    × (new.free ≡ old.free - length line) × (new.failed ≡ old.failed)
HoldsIf false old new line =
    (old.free ≤ length line) × (new ≡ old) × (old.failed ≡ false → old.room ≤ length old.held + length line)

-- the state of an output: the bytes that its sink knows, how many it took, whether it has failed,
-- how many of the bytes taken last are held back, and the room for them
pub record OutState : Type 0 where
  pub taken : Option (List ℕ)
  pub written : ℕ
  pub failed : Bool
  pub held : ℕ
  pub room : ℕ
  pub fits : written < 2 ^ 128

-- the sink took these bytes, and the count rose by their number, or stays at 2^128 - 1 if it would
-- exceed it; if there are none, as many bytes are held back as before
pub record SinkTakes (old new : OutState) (bytes : List ℕ) : Type 0 where
  pub appends : Appends old.taken new.taken bytes
  pub counts : new.written ≡ min (old.written + length bytes) (2 ^ 128 - 1)
  pub still : length bytes ≡ 0 → new.held ≡ old.held
  pub room : new.room ≡ old.room

-- the sink took a prefix of these bytes, and no byte of the rest
pub record SinkTakesPrefix (old new : OutState) (bytes : List ℕ) : Type 0 where
  pub front : List ℕ
  pub rest : List ℕ
  pub split : bytes ≡ front ++ rest
  pub takes : SinkTakes old new front

-- what a fault of the output means: the sink has failed, and the fault has the count
pub record IsOutFault (new : OutState) (fault : OutFault) : Type 0 where
  pub failed : new.failed ≡ true
  pub tells : fault.written ≡ new.written

-- a put of these bytes: all of them are taken at Ok, and a prefix of them at a fault
abbrev pub OutPuts : {X : Type 0} → OutState → OutState → Result X OutFault → List ℕ → Type 0
OutPuts old new (Ok x) bytes = SinkTakes old new bytes × (new.failed ≡ false)
OutPuts old new (Err fault) bytes = SinkTakesPrefix old new bytes × IsOutFault new fault

-- the output fails permanently, and nothing else changes
pub record FailsOutput (old new : OutState) (fault : OutFault) : Type 0 where
  pub taken : new.taken ≡ old.taken
  pub written : new.written ≡ old.written
  pub held : new.held ≡ old.held
  pub room : new.room ≡ old.room
  pub fails : IsOutFault new fault

-- a line can't be held back: the output has failed, or the line and one byte do not fit after what
-- is held, or the count would overflow
abbrev pub LacksRoom : OutState → List ℕ → Type 0
LacksRoom old line = (old.failed ≡ true) ⊎ (old.room ≤ old.held + length line) ⊎ (2 ^ 128 - 1 ≤ old.written + length line)

-- a line is held back: it is taken, and counts as written and as held
pub record KeepsDeferred (old new : OutState) (line : List ℕ) (held : DeferredLine) : Type 0 where
  pub appends : Appends old.taken new.taken line
  pub before : held.before ≡ old.written
  pub start : held.start ≡ old.written + length line
  pub few : held.start < 2 ^ 128 - 1
  pub counts : new.written ≡ held.start
  pub holds : new.held ≡ old.held + length line
  pub room : new.room ≡ old.room
  pub is_at : new.failed ≡ false

-- the same, or the output fails permanently without any of the line
abbrev pub HoldsLine : OutState → OutState → Result DeferredLine OutFault → List ℕ → Type 0
HoldsLine old new (Ok held) line = KeepsDeferred old new line held
HoldsLine old new (Err fault) line = FailsOutput old new fault × LacksRoom old line

-- the last bytes that were taken and held, this many, are taken back, and this many are written
pub record TakesBack (old new : OutState) (count written : ℕ) : Type 0 where
  pub back : List ℕ
  pub many : length back ≡ count
  pub bytes : old.taken ≡ append_known new.taken back
  pub counts : new.written ≡ written
  pub held : old.held ≡ new.held + count
  pub room : new.room ≡ old.room
  pub failed : new.failed ≡ old.failed

-- a line that was held is ended: taken back if no further byte was written, otherwise nothing
-- changes
pub record EndsLine (line : DeferredLine) (old new : OutState) : Type 0 where
  pub back : old.written ≡ line.start → TakesBack old new (line.start - line.before) line.before
  pub stays : (old.written ≡ line.start → ⊥) → new ≡ old

-- a line precedes a text that is not empty
abbrev pub before_text : (line text : List ℕ) → List ℕ
before_text line [] = []
before_text line (byte ∷ text) = line ++ (byte ∷ text)
