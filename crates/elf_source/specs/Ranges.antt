-- The state of a range of a source, and of one that was set anew.
use Rattle.std.specs.Prelude.{◌≡◌, ℕ, ◌+◌, ◌≤◌, false, List, length, take, drop, Option, Some, option_map}
use Rattle.elf_source.specs.Source.{CountedState, SourceState, RangeParent}

-- the part of a file of this size at an offset, if the file is known
abbrev pub file_within : Option (List ℕ) → ℕ → ℕ → Option (List ℕ)
file_within file start size = option_map (λ bytes. take size (drop start bytes)) file

-- a range: the state of its parent, where it starts and its size in bytes
pub record RangeOf : Type 0 where
  pub below : SourceState
  pub start : ℕ
  pub size : ℕ
  pub within : start + size ≤ below.size
  pub sized : (bytes : List ℕ) → file_within below.file start size ≡ Some bytes → length bytes ≡ size

-- its state: its own size, and the slice of the parent's file; a failure of the parent is its own
abbrev pub seen_range : RangeOf → SourceState
seen_range r = record {
  size = r.size;
  failures = r.below.failures;
  file = file_within r.below.file r.start r.size;
  sized = r.sized;
  whole = Some (record { size = r.below.size; file = r.below.file });
}

-- a source is a range of all bytes of another
abbrev pub IsWholeRange : SourceState → Type 0
IsWholeRange seen = seen.whole ≡ Some (record { size = seen.size; file = seen.file })

-- this many bytes at an offset lie within the parent of a source
abbrev pub LiesWithin : SourceState → ℕ → ℕ → Type 0
LiesWithin seen start size = (whole : RangeParent) × (seen.whole ≡ Some whole) × (start + size ≤ whole.size)

-- a range was set anew, nothing of it is hidden, and the byte count and limit are unchanged
pub record Narrows (old new : CountedState) (start size : ℕ) : Type 0 where
  pub size_is : new.seen.size ≡ size
  pub file_is : (whole : RangeParent) → old.seen.whole ≡ Some whole → new.seen.file ≡ file_within whole.file start size
  pub same_whole : new.seen.whole ≡ old.seen.whole
  pub same_failures : new.seen.failures ≡ old.seen.failures
  pub same_asked : new.asked ≡ old.asked
  pub same_limit : new.most ≡ old.most
  pub same_stopped : new.stopped ≡ old.stopped
  pub shows : new.hides ≡ false

-- a range was set to all bytes of its parent, nothing of it is hidden, and the byte count and limit
-- are unchanged
pub record Widens (old new : CountedState) : Type 0 where
  pub is_whole : IsWholeRange new.seen
  pub same_whole : new.seen.whole ≡ old.seen.whole
  pub same_failures : new.seen.failures ≡ old.seen.failures
  pub same_asked : new.asked ≡ old.asked
  pub same_limit : new.most ≡ old.most
  pub same_stopped : new.stopped ≡ old.stopped
  pub shows : new.hides ≡ false
