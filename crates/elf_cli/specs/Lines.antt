-- What a sink of whole lines passes on.
use Rattle.std.specs.Prelude.{◌≡◌, ℕ, ◌+◌, ◌-◌, ◌<◌, ◌≤◌, ◌⊎◌, slice_index, false, List, length, drop, take}
use Rattle.std.specs.Io.KnownBytes.{Appends}
use Rattle.elf_source.specs.Output.{DeferredState}

-- it passed on a prefix of its buffer, of at most n bytes, and keeps the rest: all n bytes unless
-- the sink below fails
pub record GivesFront (old new : DeferredState) (count : ℕ) : Type 0 where
  pub given : ℕ
  pub within : given ≤ count
  pub went : Appends old.below new.below (take given old.held)
  pub left : new.held ≡ drop given old.held
  pub room : new.room ≡ old.room
  pub free : new.free ≡ old.free + given
  pub all : new.failed ≡ false → given ≡ count

-- no line ends in these bytes from an index on
abbrev pub NoLineFrom : ℕ → List ℕ → Type 0
NoLineFrom from bytes = (place : ℕ) → from ≤ place → place < length bytes → slice_index bytes place ≡ 10 → ⊥

-- the first n of these bytes are whole lines: they end with the last line that ends in them, or are
-- all bytes if none does
abbrev pub AreWholeLines : List ℕ → ℕ → Type 0
AreWholeLines bytes count =
    ((0 < count) × (slice_index bytes (count - 1) ≡ 10) × NoLineFrom count bytes) ⊎ ((count ≡ length bytes) × NoLineFrom 0 bytes)
