-- What a call has of the image of a segment of a file in memory, and of the entries that lack an
-- item.
use Rattle.std.specs.Prelude.{ℕ, zero, suc, ◌≡◌, ◌+◌, ◌-◌, ◌^◌, ◌≤◌, ◌==◌, ◌⊎◌, min, List, ◌∷◌, ◌++◌, take, length, Option, IfSome, None, Some, Result, Ok, Err}
use Rattle.std.specs.Ordering.{nat_cmp}
use Rattle.elf_model.specs.Image.{image, image_changes, writes_in, writes_of}
use Rattle.elf_model.specs.ImageCost.{image_cost, met_windows, windows_of}
use Rattle.elf_model.specs.ImageItems.{ItemValues}
use Rattle.elf_model.specs.Prelude.{IsBudgetRefusal, without_sections}
use Rattle.elf_model.specs.declared.causes.Refusal.{Refusal}
use Rattle.elf_layout.specs.Prelude.{KeysAscend}
use Rattle.elf_image.specs.ImageWrites.{IsTooLarge, request_items}
use Rattle.elf_image.specs.Items.{copy_index, given, item_rank_of, said_by}
use Rattle.elf_image.specs.declared.image_items.ImageItems.{ImageItems}
use Rattle.elf_capi.specs.Ends.{ReturnsCause, ReturnsNone}
use Rattle.elf_capi.specs.LentLayouts.{CountsWritten}
use Rattle.elf_capi.specs.Limits.{AreInRange, budget_of, headers_of}
use Rattle.elf_capi.specs.Told.{IsStatus, Untouched}
use Rattle.elf_capi.specs.Wants.{IsWanting}
use Rattle.elf_capi.specs.declared.call_status.CallStatus.{CallStatus}
use Rattle.elf_capi.specs.declared.call_status.CallStatus.TheVariants.{BadCall, Done, Full, Refused}
use Rattle.elf_capi.specs.declared.end.CallEnd.{CallEnd}
use Rattle.elf_capi.specs.declared.image_items.CallerImageItems.{CallerImageItems}
use Rattle.elf_capi.specs.declared.images.ImageInput.{ImageInput}
use Rattle.elf_capi.specs.declared.limits.CallerLimits.{CallerLimits}

-- ITEMS MAY BE BORROWED: each is above the one before it
pub record MayBorrowItems (items : CallerImageItems) : Type 0 where
  pub numbers : KeysAscend nat_cmp item_rank_of items.numbers.now
  pub copies : KeysAscend nat_cmp copy_index items.copies.now
  pub partial : items.partial ≤ 1

-- they are returned if they may be borrowed, and not otherwise
abbrev pub GivesItems : CallerImageItems → Option ImageItems → Type 0
GivesItems items None = MayBorrowItems items → ⊥
GivesItems items (Some lent) =
    MayBorrowItems items × (given lent.numbers.now lent.copies.now ≡ given items.numbers.now items.copies.now)

-- limits, room and items in their ranges
abbrev pub MayUseItems : CallerLimits → CallerImageItems → (room : ℕ) → Type 0
MayUseItems limits items room = AreInRange limits room × MayBorrowItems items

-- how many windows of a size what is stored in the segment meets: none if it is refused
abbrev pub windows_stored : List ℕ → (segment window : ℕ) → ItemValues → ℕ
windows_stored file segment window items = elim (writes_of items.partial (image_changes file (without_sections file) items)) [
  | Err refusal ↦ 0
  | Ok writes ↦ met_windows window (windows_of (without_sections file) segment window) (writes_in segment writes)
]

-- how many bytes are read at most
abbrev pub image_reads : List ℕ → (segment window : ℕ) → ItemValues → ℕ
image_reads file segment window items = image_cost (without_sections file) segment window (windows_stored file segment window items)

-- THE IMAGE of a segment by items, of at most this many bytes, within a budget, in windows of a size and
-- with the given number of headers allowed: all of it is in the memory; or it is refused, and no byte
-- counts as written, and with `Budget` only if it costs more than the budget, or the segment has more
-- bytes; or the memory is its prefix, and it has more bytes
abbrev pub ImagesFor : List ℕ → (headers : ℕ) → (budget : Option ℕ) → (segment most window : ℕ) → ItemValues → List ℕ → ℕ → CallStatus → Type 0
ImagesFor file headers budget segment most window items out written Done = image file headers segment most items ≡ Ok (take written out)
ImagesFor file headers budget segment most window items out written (Refused refusal) =
    ((IsBudgetRefusal refusal → ⊥) → image file headers segment most items ≡ Err refusal)
    × (IsBudgetRefusal refusal → (IsTooLarge (without_sections file) segment most × (image file headers segment most items ≡ Err refusal))
    ⊎ IsWanting budget (image_reads file segment window items) (length file + 1) refusal)
    × (written ≡ 0)
ImagesFor file headers budget segment most window items out written Full =
    (written ≡ length out) × (byte : ℕ) × (rest : List ℕ) × (image file headers segment most items ≡ Ok (out ++ byte ∷ rest))
ImagesFor file headers budget segment most window items out written BadCall = ⊥

-- the same for an input
abbrev pub ImagesIn : List ℕ → (headers window : ℕ) → ImageInput → List ℕ → ℕ → CallStatus → Type 0
ImagesIn file headers window wanted out written told =
    ImagesFor file headers wanted.budget wanted.request.segment wanted.request.most window (request_items wanted.request) out written told

-- what a caller's items say
abbrev pub said_items : CallerImageItems → ItemValues
said_items items = said_by (given items.numbers.now items.copies.now) (items.partial == 1)

-- the effect of a call with its arguments: within the cost and the budget it gives the image, whatever
-- its size is
pub record GaveImage (file : List ℕ) (limits : CallerLimits) (segment : ℕ) (items : CallerImageItems) (room window : ℕ) (out : List ℕ) (end : CallEnd) (told : CallStatus) : Type 0 where
  pub permitted : MayUseItems limits items room
  pub wide : 16 ≤ window
  pub image : ImagesFor file (headers_of limits room) (budget_of limits) segment (2 ^ 64 - 1) window (said_items items) out end.written told
  pub cost : end.asked ≤ image_reads file segment window (said_items items)
  pub budget : IfSome (budget_of limits) (λ bytes. end.asked ≤ bytes)

-- or they are out of range, and nothing is read and written
abbrev pub ImagesInMemory : List ℕ → CallerLimits → (segment : ℕ) → CallerImageItems → (room window : ℕ) → List ℕ → List ℕ → CallEnd → CallStatus → Type 0
ImagesInMemory file limits segment items room window before out end BadCall =
    (MayUseItems limits items room → 16 ≤ window → ⊥) × Untouched before out end
ImagesInMemory file limits segment items room window before out end told = GaveImage file limits segment items room window out end told

-- WHAT A CALLER HAS of the image of a segment, with the given bytes of room and of a window: the
-- result, as the memory and the numbers have it
pub record ReturnsImage (file : List ℕ) (limits : CallerLimits) (segment : ℕ) (items : CallerImageItems) (room window status : ℕ) (before out : List ℕ) (end : CallEnd) : Type 0 where
  pub told : CallStatus
  pub images : ImagesInMemory file limits segment items room window before out end told
  pub status_is : IsStatus status end told
  pub written : CountsWritten end told
  pub within : end.written ≤ length out

-- a number of entries that lack an item, after others
abbrev pub CountsLacking : (status index later : ℕ) → ℕ → Type 0
CountsLacking status index later zero = (status ≡ 2) × (later ≡ index)
CountsLacking status index later (suc n) = (status ≡ 0) × (later ≡ min (index + suc n) (2 ^ 64 - 1))

-- the result as numbers
abbrev pub ReturnsLacking : (status index later : ℕ) → CallEnd → Option (Result ℕ Refusal) → Type 0
ReturnsLacking status index later end (Some (Ok count)) = CountsLacking status index later count × ReturnsNone end
ReturnsLacking status index later end (Some (Err refusal)) = (status ≡ 1) × (later ≡ index) × ReturnsCause end refusal
ReturnsLacking status index later end None = (status ≡ 4) × (later ≡ index) × ReturnsNone end

-- the arguments are in range, and there are at most as many entries as fit; or nothing is read
abbrev pub ReadsLacking : CallerLimits → CallerImageItems → (room most asked : ℕ) → Option (Result ℕ Refusal) → Type 0
ReadsLacking limits items room most asked None = (MayUseItems limits items room → ⊥) × (asked ≡ 0)
ReadsLacking limits items room most asked (Some (Ok count)) = MayUseItems limits items room × (count ≤ most)
ReadsLacking limits items room most asked (Some (Err refusal)) = MayUseItems limits items room

-- WHAT A CALLER HAS of the entries that lack an item, of which at most some fit
pub record HasLacking (limits : CallerLimits) (items : CallerImageItems) (room most status index later : ℕ) (end : CallEnd) : Type 0 where
  pub read : Option (Result ℕ Refusal)
  pub reads : ReadsLacking limits items room most end.asked read
  pub tells : ReturnsLacking status index later end read
  pub clear : (end.written ≡ 0) × (end.none ≡ 0)
