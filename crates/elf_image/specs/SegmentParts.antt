-- Parts of a segment, as they are read.
use Rattle.std.specs.Prelude.{ℕ, ◌≡◌, ◌+◌, ◌-◌, ◌^◌, ◌<◌, ◌≤◌, List, length, get_or}
use Rattle.elf_model.specs.Apply.{put}
use Rattle.elf_model.specs.ApplyLaws.{clipped}
use Rattle.elf_image.specs.declared.window.ImageWindow.{ImageWindow}

-- the bytes at an offset of a segment: those that it has in the file, and zeros after these
abbrev pub IsPartOf : List ℕ → (low : ℕ) → List ℕ → Type 0
IsPartOf base low bytes = (i : ℕ) → i < length bytes → get_or bytes i 0 ≡ get_or base (low + i) 0

-- the seven bytes before a window, and those after it, are those of a segment
pub record HasEdges (base : List ℕ) (window : ImageWindow) : Type 0 where
  pub before : (i : ℕ) → i < 7 → 7 ≤ window.low + i → get_or window.before i 0 ≡ get_or base (window.low + i - 7) 0
  pub after : (i : ℕ) → i < 7 → get_or window.after i 0 ≡ get_or base (window.low + length window.bytes.now + i) 0

-- a window of a segment at an offset: its bytes and its edges
pub record IsWindowOf (base : List ℕ) (low : ℕ) (window : ImageWindow) : Type 0 where
  pub start : window.low ≡ low
  pub bytes : IsPartOf base low window.bytes.now
  pub edges : HasEdges base window

-- a word that meets a window, which has the bytes of the segment there
pub record MeetsWord (base : List ℕ) (window : ImageWindow) (offset : ℕ) : Type 0 where
  pub edges : HasEdges base window
  pub fits : window.low + length window.bytes.now < 2 ^ 64
  pub end : offset + 8 < 2 ^ 64
  pub from : window.low < offset + 8
  pub to : offset < window.low + length window.bytes.now
  pub kept : (i : ℕ) → offset ≤ i → i < offset + 8 → window.low ≤ i → i < window.low + length window.bytes.now
      → get_or window.bytes.now (i - window.low) 0 ≡ get_or base i 0

-- a window's place and its edges are kept, and the number of its bytes
pub record KeepsEdges (old new : ImageWindow) : Type 0 where
  pub low : new.low ≡ old.low
  pub before : new.before ≡ old.before
  pub after : new.after ≡ old.after
  pub long : length new.bytes.now ≡ length old.bytes.now

-- the part of some bytes at an offset that falls into a window is put there
abbrev pub PutsBytes : (old new : ImageWindow) → (offset : ℕ) → List ℕ → Type 0
PutsBytes old new offset bytes =
    old.low + length old.bytes.now < 2 ^ 64 → offset + length bytes < 2 ^ 64
    → new.bytes.now ≡ put (clipped old.low (length old.bytes.now) (record { at = offset; bytes = bytes })) old.bytes.now
