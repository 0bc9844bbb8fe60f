-- A segment that is written window by window.
use Rattle.std.specs.Prelude.{ℕ, ◌≡◌, ◌+◌, ◌-◌, ◌*◌, ◌^◌, ◌<◌, ◌≤◌, min, if◌then◌else◌, false, List, Some, Ok}
use Rattle.std.specs.List.{list_any}
use Rattle.elf_model.specs.Image.{ImageSource, SegmentWrite, relocation_changes, writes_in, writes_of}
use Rattle.elf_model.specs.ImageCost.{meets_window}
use Rattle.elf_source.specs.Prelude.{CountedState, file_by}
use Rattle.elf_image.specs.Changes.{image_pass}
use Rattle.elf_image.specs.Relocated.{IsImageOf}
use Rattle.elf_image.specs.Written.{IsTargetOf}
use Rattle.elf_image.specs.declared.changes.ImageFile.{ImageFile}
use Rattle.elf_image.specs.declared.segment_windows.ImageTarget.{ImageTarget}
use Rattle.elf_image.specs.declared.segment_windows.WindowPlace.{WindowPlace}

-- WHAT A SEGMENT IS WRITTEN FROM: a file, as it is read, and as its bytes are written; its image; the
-- segment; and all that relocations store
pub record WritesFrom (src : CountedState) (image : ImageFile) (source : ImageSource) (target : ImageTarget) (writes : List SegmentWrite) : Type 0 where
  pub file : src.seen.file ≡ Some source.file
  pub whole : file_by target.hides src.source.file ≡ Some source.whole
  pub small : src.seen.size < 2 ^ 64
  pub is_image : IsImageOf source image
  pub is_target : IsTargetOf source target
  pub are_writes : writes_of image.leaves (relocation_changes source) ≡ Ok writes

-- how many bytes one window may read: its own and those at its edges, and the relocations if they store
-- something in it
abbrev pub window_cost : ImageFile → ImageTarget → WindowPlace → (size : ℕ) → ℕ
window_cost image target place size =
    14 + min (target.bytes.size - place.low) size + (if place.met then image_pass image else 0)

-- a window of at most this many bytes is met if a relocation stores something in it
abbrev pub IsMetByWrites : ImageTarget → List SegmentWrite → WindowPlace → (size : ℕ) → Type 0
IsMetByWrites target writes place size =
    place.met ≡ false
    → (k : ℕ) × (place.low ≡ target.window * k) × (size ≤ target.window)
    × (list_any (meets_window target.window k) (writes_in target.index writes) ≡ false)
