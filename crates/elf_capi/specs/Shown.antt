-- What a listing of a file in memory gives its caller.
use Rattle.elf_model.specs.Prelude.{IsBudgeted, ListingStyle, listing_cost, standard}
use Rattle.elf_model.specs.declared.causes.Refusal.{Refusal}
use Rattle.elf_options.specs.Prelude.{style_of}
use Rattle.elf_options.specs.declared.caps.Caps.{Caps}
use Rattle.std.specs.Prelude.{ℕ, ◌≡◌, ◌≤◌, List, ◌∷◌, ◌++◌, take, length, Option, None, Some, IfSome}
use Rattle.elf_capi.specs.Asked.{AsksListing, BorrowedTexts, parts_in, style_in}
use Rattle.elf_capi.specs.Limits.{AreCaps, budget_of, headers_of}
use Rattle.elf_capi.specs.Told.{IsStatus, Untouched}
use Rattle.elf_capi.specs.declared.end.CallEnd.{CallEnd}
use Rattle.elf_capi.specs.declared.limits.CallerLimits.{CallerLimits}
use Rattle.elf_capi.specs.declared.call_status.CallStatus.{CallStatus}
use Rattle.elf_capi.specs.declared.call_status.CallStatus.TheVariants.{Done, Refused, Full, BadCall}

-- the text of some kind with its fault is at the start of some memory; or the memory is its prefix,
-- and it has more bytes
abbrev pub FillsMemory : (List ℕ → Option Refusal → Type 0) → List ℕ → ℕ → CallStatus → Type 0
FillsMemory IsText out written Done = IsText (take written out) None
FillsMemory IsText out written (Refused refusal) = IsText (take written out) (Some refusal)
FillsMemory IsText out written Full = (written ≡ length out) × (byte : ℕ) × (rest : List ℕ) × (fault : Option Refusal) × IsText (out ++ byte ∷ rest) fault
FillsMemory IsText out written BadCall = ⊥

-- what caps and parts list of a file is in some memory
abbrev pub ListsInMemory : List ℕ → Caps → ℕ → List ℕ → ℕ → CallStatus → Type 0
ListsInMemory file caps parts out written told = FillsMemory (IsBudgeted caps.limits.budget file caps.limits.headers (style_of caps.style) parts) out written told

-- what is listed of a file in a style, its report or, if it costs more than the budget, a prefix of
-- whole lines and the line of the budget, is in the memory; or the arguments are not allowed, and
-- nothing is read and written
abbrev pub ShowsInMemory : (May : Type 0) → List ℕ → CallerLimits → ℕ → ListingStyle → ℕ → List ℕ → List ℕ → CallEnd → CallStatus → Type 0
ShowsInMemory May file limits room style parts before out end BadCall = (May → ⊥) × Untouched before out end
ShowsInMemory May file limits room style parts before out end told =
    May × FillsMemory (IsBudgeted (budget_of limits) file (headers_of limits room) style parts) out end.written told

-- WHAT A CALLER HAS of a listing in a style, with the given bytes of room: the result, as the
-- memory and the numbers have it
pub record HasStyledListing (May : Type 0) (file : List ℕ) (limits : CallerLimits) (room : ℕ) (style : ListingStyle) (parts status : ℕ) (before out : List ℕ) (end : CallEnd) : Type 0 where
  pub told : CallStatus
  pub shows : ShowsInMemory May file limits room style parts before out end told
  pub status_is : IsStatus status end told
  pub within : end.written ≤ length out
  pub cost : end.asked ≤ listing_cost file (headers_of limits room) style parts
  pub budget : IfSome (budget_of limits) (λ bytes. end.asked ≤ bytes)

-- of a listing of some parts, with the standards' names, by the section headers if there are any,
-- and in columns
abbrev pub HasListing : List ℕ → CallerLimits → (room parts status : ℕ) → (before out : List ℕ) → CallEnd → Type 0
HasListing file limits room parts status before out end =
    HasStyledListing (AreCaps limits room) file limits room (standard limits.name) parts status before out end

-- of the listing that the bytes of a struct request, of every row or of those of some names
abbrev pub HasAskedListing : List ℕ → CallerLimits → (room : ℕ) → (asked : List ℕ) → Option BorrowedTexts → (status : ℕ) → (before out : List ℕ) → CallEnd → Type 0
HasAskedListing file limits room asked names status before out end =
    HasStyledListing (AreCaps limits room × AsksListing asked names) file limits room (style_in asked names limits.name) (parts_in asked) status before out end
