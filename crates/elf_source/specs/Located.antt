-- A sink that writes objects with their locations.
use Rattle.std.specs.Prelude.{ℕ, ◌≡◌, ◌+◌, ◌-◌, ◌<◌, ◌&&◌, nat_le, nat_lt, if◌then◌else◌, option_map, Bool, List, [], ◌++◌, Option, None, Some, length, get_or}
use Rattle.std.specs.Io.KnownBytes.{Appends}
use Rattle.elf_model.specs.Located.{LETTER_AT, LinePosition, Location, located_from, position_at_end}

-- a buffer with a location, which fits its room
pub record LocationBuffer : Type 0 where
  pub location : Location
  pub room : ℕ

-- the location of a member's rows, after that of the file: that of the file alone if it does not fit
abbrev pub row_location : (room : ℕ) → List ℕ → List ℕ → Location
row_location room file text = record { file = file; row = if nat_le (length file + length text) room then file ++ text else file }

-- that of a file's rows: none if it does not fit
abbrev pub file_location : (room : ℕ) → List ℕ → Location
file_location room text =
    let all = (row_location room [] text).row in record { file = all; row = all }

-- a sink: what the sink below it took, whether that failed, the location if objects have one, and
-- where in a line it is
pub record LocatedState : Type 0 where
  pub below : Option (List ℕ)
  pub failed : Bool
  pub buffer : Option LocationBuffer
  pub position : LinePosition

-- the bytes that it took are those that the sink below took, unless objects have a location
abbrev pub known_below : LocatedState → Option (List ℕ)
known_below sink = elim sink.buffer [ None ↦ sink.below | Some buffer ↦ None ]

-- the sink below took what bytes become
pub record AddsLocation (by : LocationBuffer) (old new : LocatedState) (bytes : List ℕ) : Type 0 where
  pub appends : Appends old.below new.below (located_from by.location old.position bytes)
  pub position : new.position ≡ position_at_end old.position bytes
  pub buffer : new.buffer ≡ old.buffer

-- a buffer with another location
abbrev pub with_location : LocationBuffer → Location → LocationBuffer
with_location buffer location = record { location = location; room = buffer.room }

-- another location, if objects have one, for what comes next
pub record LocatesNext (old new : LocatedState) (next : LocationBuffer → Location) : Type 0 where
  pub known : known_below new ≡ known_below old
  pub failed : new.failed ≡ old.failed
  pub position : new.position ≡ old.position
  pub buffer : new.buffer ≡ option_map (λ b. with_location b (next b)) old.buffer

-- the letter after some bytes of an object
abbrev pub letter_after : LinePosition → List ℕ → (count : ℕ) → ℕ
letter_after position bytes count =
    if nat_le position.place LETTER_AT && nat_lt LETTER_AT (position.place + count) then get_or bytes (LETTER_AT - position.place) 0 else position.letter

-- no byte is a newline
abbrev pub HasNoNewline : List ℕ → Type 0
HasNoNewline bytes = (k : ℕ) → k < length bytes → get_or bytes k 0 ≡ 10 → ⊥

-- no byte before the last of the first ones is a newline
abbrev pub IsPartOfLine : List ℕ → (count : ℕ) → Type 0
IsPartOfLine bytes count = (k : ℕ) → k + 1 < count → get_or bytes k 0 ≡ 10 → ⊥
