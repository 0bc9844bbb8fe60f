-- What a section of a file in memory with its relocations applied gives its caller.
use Rattle.std.specs.Prelude.{ℕ, ◌≡◌, ◌<◌, ◌≤◌, ◌^◌, List, ◌∷◌, ◌++◌, take, length, Option, IfSome, Ok, Err}
use Rattle.elf_model.specs.Prelude.{IsBudgetRefusal, Layout, applied, apply_cost_by_order, no_items}
use Rattle.elf_capi.specs.Items.{LaysItems}
use Rattle.elf_capi.specs.Limits.{AreInRange, budget_of, headers_of}
use Rattle.elf_capi.specs.Told.{IsStatus, Untouched}
use Rattle.elf_capi.specs.Wants.{IsWanting}
use Rattle.elf_capi.specs.declared.applied.ApplyInput.{ApplyInput}
use Rattle.elf_capi.specs.declared.items.ApplyCall.{ApplyCall}
use Rattle.elf_capi.specs.declared.end.CallEnd.{CallEnd}
use Rattle.elf_capi.specs.declared.limits.CallerLimits.{CallerLimits}
use Rattle.elf_capi.specs.declared.call_status.CallStatus.{CallStatus}
use Rattle.elf_capi.specs.declared.call_status.CallStatus.TheVariants.{Done, Refused, Full, BadCall}

-- a section for a layout, within a budget and with the given number of headers allowed: all of it
-- is in the memory; or it is refused, and if that is for lack of budget it costs more; or the
-- memory is its prefix, and it has more bytes
abbrev pub AppliesFor : List ℕ → ℕ → Option ℕ → ℕ → Layout → List ℕ → ℕ → CallStatus → Type 0
AppliesFor file headers budget section layout out written Done = applied file headers section layout ≡ Ok (take written out)
AppliesFor file headers budget section layout out written (Refused refusal) =
    ((IsBudgetRefusal refusal → ⊥) → applied file headers section layout ≡ Err refusal)
    × (IsBudgetRefusal refusal → IsWanting budget (apply_cost_by_order file headers section layout) (length file) refusal)
AppliesFor file headers budget section layout out written Full =
    (written ≡ length out) × (byte : ℕ) × (rest : List ℕ) × (applied file headers section layout ≡ Ok (out ++ byte ∷ rest))
AppliesFor file headers budget section layout out written BadCall = ⊥

-- the same for an input
abbrev pub AppliesIn : List ℕ → ℕ → ApplyInput → List ℕ → ℕ → CallStatus → Type 0
AppliesIn file headers wanted out written told = AppliesFor file headers wanted.budget wanted.section wanted.layout.now out written told

-- limits, room and a section's index in their ranges, and items that give this layout
pub record IsGood (limits : CallerLimits) (room : ℕ) (job : ApplyCall) (layout : Layout) : Type 0 where
  pub permitted : AreInRange limits room
  pub index : job.section < 2 ^ 16
  pub lays : LaysItems no_items job.items.now layout

-- the effect of a call with its arguments: within the cost and the budget it gives the section for
-- the layout that the items give, and if it is refused no byte counts as written
pub record Gave (file : List ℕ) (limits : CallerLimits) (job : ApplyCall) (room : ℕ) (out : List ℕ) (end : CallEnd) (told : CallStatus) : Type 0 where
  pub layout : Layout
  pub good : IsGood limits room job layout
  pub section : AppliesFor file (headers_of limits room) (budget_of limits) job.section layout out end.written told
  pub cost : end.asked ≤ apply_cost_by_order file (headers_of limits room) job.section layout
  pub budget : IfSome (budget_of limits) (λ bytes. end.asked ≤ bytes)

-- or its arguments are out of range, and nothing is read and written
abbrev pub AppliesInMemory : List ℕ → CallerLimits → ApplyCall → ℕ → List ℕ → List ℕ → CallEnd → CallStatus → Type 0
AppliesInMemory file limits job room before out end Done = Gave file limits job room out end Done
AppliesInMemory file limits job room before out end (Refused refusal) = Gave file limits job room out end (Refused refusal) × (end.written ≡ 0)
AppliesInMemory file limits job room before out end Full = Gave file limits job room out end Full
AppliesInMemory file limits job room before out end BadCall = ((layout : Layout) → IsGood limits room job layout → ⊥) × Untouched before out end

-- WHAT A CALLER HAS of a section, with the given bytes of room: the result, as the memory and the
-- numbers have it
pub record IsApplied (file : List ℕ) (limits : CallerLimits) (job : ApplyCall) (room status : ℕ) (before out : List ℕ) (end : CallEnd) : Type 0 where
  pub told : CallStatus
  pub applies : AppliesInMemory file limits job room before out end told
  pub status_is : IsStatus status end told
  pub within : end.written ≤ length out
