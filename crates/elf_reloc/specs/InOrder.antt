-- One pass over entries whose offsets never decrease: what is held, and how far the section is
-- written.
use Rattle.std.specs.Prelude.{ℕ, ◌≡◌, ◌+◌, ◌^◌, ◌<◌, ◌≤◌, List, [], ◌∷◌, length, take, drop, None, Some, Ok}
use Rattle.elf_model.specs.Prelude.{AllInside, SectionChange, StoredBytes, patched, patches_of, slice}
use Rattle.elf_source.specs.Prelude.{CountedState, OutState, SinkTakes}

-- bytes of the section at an offset, which were read and are not written yet
pub record PendingState : Type 0 where
  pub low : ℕ
  pub bytes : List ℕ

-- what is held is these bytes, at this offset
pub record IsHeldFrom (h : PendingState) (begin : ℕ) (text : List ℕ) : Type 0 where
  pub low : h.low ≡ begin
  pub bytes : h.bytes ≡ text

-- the offset at which they end
abbrev pub end_of : PendingState → ℕ
end_of h = h.low + length h.bytes

-- what is held is a part of the section as it is now, after which everything is unchanged
pub record IsPartlyWritten (base now : List ℕ) (h : PendingState) : Type 0 where
  pub long : length now ≡ length base
  pub within : h.low + length h.bytes ≤ length base
  pub held : h.bytes ≡ slice now h.low (length h.bytes)
  pub rest : drop (h.low + length h.bytes) now ≡ drop (h.low + length h.bytes) base

-- patches whose offsets never decrease, the first at or after an offset
unfoldable pub OffsetsAscend : ℕ → List StoredBytes → Type 0
OffsetsAscend low [] = Unit {0}
OffsetsAscend low (patch ∷ patches) = (low ≤ patch.at) × OffsetsAscend patch.at patches

-- for the section as it is now: what comes before the held bytes was written, and the changes that
-- are left turn it into the text
pub record UnderWay (base text : List ℕ) (h : PendingState) (left : List SectionChange) (old new : OutState) : Type 0 where
  pub now : List ℕ
  pub midway : IsPartlyWritten base now h
  pub patches : List StoredBytes
  pub are : patches_of left ≡ Ok patches
  pub inside : AllInside (length base) patches
  pub rises : OffsetsAscend h.low patches
  pub ends : patched patches now ≡ text
  pub takes : SinkTakes old new (take h.low now)

-- if what is held is a part of a section of a size at an offset, this holds of the section's bytes
-- in the file and of those that it has now
abbrev pub OfHeld : CountedState → ℕ → ℕ → PendingState → (List ℕ → List ℕ → Type 0) → Type 0
OfHeld src at size h Text =
    (file : List ℕ) → src.seen.file ≡ Some file → (now : List ℕ) → at + size ≤ length file → IsPartlyWritten (slice file at size) now h → Text (slice file at size) now

-- what was read in addition is held: it ends within a size, and no more was requested
pub record HoldsOn (before after : CountedState) (old new : PendingState) (size : ℕ) : Type 0 where
  pub within : end_of new ≤ size
  pub asked : after.asked + end_of old ≤ before.asked + end_of new

-- n bytes at an offset may be read: no limit is set, and they lie within the source, whose offsets
-- fit
pub record MayRead (src : CountedState) (at n : ℕ) : Type 0 where
  pub free : src.most ≡ None
  pub within : at + n ≤ src.seen.size
  pub fits : src.seen.size < 2 ^ 64
