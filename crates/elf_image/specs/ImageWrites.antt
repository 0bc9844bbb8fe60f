-- The image of a segment as it is asked for, and what a call that writes it does.
use Rattle.std.specs.Prelude.{ℕ, ◌≡◌, ◌+◌, ◌*◌, ◌^◌, ◌<◌, ◌≤◌, ◌⊎◌, Bool, List, length, Some, Result, Ok, Err, ◌-◌, ◌/◌}
use Rattle.elf_model.specs.Image.{ImageSource, image_by_segments, image_changes, relocation_changes, writes_in, writes_of}
use Rattle.elf_model.specs.ImageCost.{image_cost, met_windows, windows_of}
use Rattle.elf_model.specs.ImageItems.{ItemValues}
use Rattle.elf_model.specs.Prelude.{IsBudgetRefusal, p_memsz, segment_at}
use Rattle.elf_model.specs.declared.causes.Refusal.{Refusal}
use Rattle.elf_source.specs.Prelude.{CountedState, OutState, SinkTakes, SinkTakesPrefix, file_by}
use Rattle.elf_table.specs.declared.run_fault.RunFault.{RunFault}
use Rattle.elf_table.specs.declared.run_fault.RunFault.TheVariants.{Out, Refused, Source}
use Rattle.elf_reloc.specs.Applied.{OverBudget, text_of}
use Rattle.elf_image.specs.Changes.{image_pass}
use Rattle.elf_image.specs.Items.{given, said_by}
use Rattle.elf_image.specs.Relocated.{IsImageOf}
use Rattle.elf_image.specs.Written.{IsTargetOf, bytes_after, window_count}
use Rattle.elf_image.specs.declared.changes.ImageFile.{ImageFile}
use Rattle.elf_image.specs.declared.segment_image.ImageRequest.{ImageRequest}
use Rattle.elf_image.specs.declared.segment_windows.ImageTarget.{ImageTarget}

-- THE IMAGE: all its bytes are written, or the refusal is returned and nothing is written; a prefix of
-- them on a fault
abbrev pub WritesImage : {X : Type 0} → OutState → OutState → Result X RunFault → Result (List ℕ) Refusal → Type 0
WritesImage old new (Ok x) answer = (bytes : List ℕ) × (answer ≡ Ok bytes) × SinkTakes old new bytes
WritesImage old new (Err (Refused refusal)) answer = ((IsBudgetRefusal refusal → ⊥) → answer ≡ Err refusal) × (new ≡ old)
WritesImage old new (Err (Source reason at)) answer = SinkTakesPrefix old new (text_of answer)
WritesImage old new (Err (Out reason)) answer = SinkTakesPrefix old new (text_of answer)

-- WHEN `Budget` IS REFUSED: a segment has more bytes than are allowed, and it is the answer; or a limit
-- was set that n bytes more would have exceeded, and it is at an offset of the source or at its end
abbrev pub RefusesOverLimit : CountedState → (n : ℕ) → (is_large : Type 0) → Result (List ℕ) Refusal → RunFault → Type 0
RefusesOverLimit src n is_large answer (Refused refusal) =
    IsBudgetRefusal refusal → (is_large × (answer ≡ Err refusal)) ⊎ ((refusal.at ≤ src.seen.size) × OverBudget src n)
RefusesOverLimit src n is_large answer (Source reason at) = Unit {0}
RefusesOverLimit src n is_large answer (Out reason) = Unit {0}

-- the segment of a program header has more bytes than are allowed
abbrev pub IsTooLarge : List ℕ → (segment most : ℕ) → Type 0
IsTooLarge file segment most = most < p_memsz file (segment_at file segment)

-- what the items of a request say
abbrev pub request_items : ImageRequest → ItemValues
request_items request = said_by (given request.items.now.numbers.now request.items.now.copies.now) request.leaves

-- the image that is asked for, of a file without section headers and all bytes of which may be written
abbrev pub asked_image : (whole file : List ℕ) → (headers : ℕ) → ImageRequest → Result (List ℕ) Refusal
asked_image whole file headers request = image_by_segments whole file headers request.segment request.most (request_items request)

-- how many windows of a size what is stored in its segment meets: none if it is refused
unfoldable pub windows_met : (whole file : List ℕ) → (window : ℕ) → ImageRequest → ℕ
windows_met whole file window request = elim (writes_of request.leaves (image_changes whole file (request_items request))) [
  | Err refusal ↦ 0
  | Ok writes ↦ met_windows window (windows_of file request.segment window) (writes_in request.segment writes)
]

-- how many bytes are requested at most for the image that is asked for
abbrev pub request_cost : (whole file : List ℕ) → (window : ℕ) → ImageRequest → ℕ
request_cost whole file window request = image_cost file request.segment window (windows_met whole file window request)

-- the file of a loaded one, without section headers, and the same with all bytes that may be written
pub record IsMaskedFile (src : CountedState) (hides : Bool) (whole file : List ℕ) : Type 0 where
  pub seen : src.seen.file ≡ Some file
  pub whole_is : file_by hides src.source.file ≡ Some whole
  pub long : length whole ≡ length file

-- WHAT IS WRITTEN of a file whose headers are checked: as it is read, and as its bytes are written; its
-- image; and the segment
pub record HasSource (src : CountedState) (image : ImageFile) (source : ImageSource) (target : ImageTarget) : Type 0 where
  pub file : src.seen.file ≡ Some source.file
  pub whole : file_by target.hides src.source.file ≡ Some source.whole
  pub small : src.seen.size < 2 ^ 64
  pub image_is : IsImageOf source image
  pub target_is : IsTargetOf source target

-- the bytes of the segment with all that relocations store, or the first refusal of them
abbrev pub relocated_bytes : ImageSource → (partial : Bool) → ImageTarget → Result (List ℕ) Refusal
relocated_bytes source partial target = elim (writes_of partial (relocation_changes source)) [
  | Err refusal ↦ Err refusal
  | Ok writes ↦ Ok (bytes_after source target writes)
]

-- how many bytes are requested for that: one pass over the relocations, and one for each window that
-- they meet; the segment and the edges of its windows
abbrev pub relocated_cost : ImageSource → ImageFile → ImageTarget → ℕ
relocated_cost source image target = elim (writes_of image.leaves (relocation_changes source)) [
  | Err refusal ↦ image_pass image
  | Ok writes ↦
      image_pass image
      + (met_windows target.window (window_count target) (writes_in target.index writes) * image_pass image + (target.bytes.size + 14 * window_count target))
]

-- FOR EVERY SOURCE, file known or not: how many bytes one pass reads at most, over relocations whose
-- tables lie within a source of this size
unfoldable pub pass_ceiling : (size : ℕ) → ℕ
pass_ceiling size = 8 * (size / 8) + 72 * (2 * (size / 24))

-- one pass that checks, one for each window of a segment of this many bytes in memory, and the segment
-- with the edges of its windows
unfoldable pub relocated_ceiling : (size window memory : ℕ) → ℕ
relocated_ceiling size window memory =
    let windows = (memory + (window - 1)) / window in
    pass_ceiling size + windows * pass_ceiling size + (size + 14 * windows)

-- the headers, of which this many are allowed, the dynamic entries, and those
abbrev pub image_ceiling : (size headers window most : ℕ) → ℕ
image_ceiling size headers window most = 64 + 56 * headers + size + relocated_ceiling size window most
