-- What a call has of the dynamic symbols of a file in memory, as a loader sees them.
use Rattle.std.specs.Prelude.{ℕ, ◌≡◌, ◌≤◌, ◌==◌, List, length, Option, None, Some, Result, Ok, Err, IfSome}
use Rattle.elf_model.specs.Prelude.{IsBudgetRefusal, looked_at}
use Rattle.elf_model.specs.declared.causes.Refusal.{Refusal}
use Rattle.elf_table.specs.declared.fault.Fault.TheVariants.{Refused}
use Rattle.elf_capi.specs.Hashed.{ReturnsHashedRows, hashed_cost}
use Rattle.elf_capi.specs.declared.rows.RowPosition.{RowPosition}
use Rattle.elf_capi.specs.Limits.{AreInRange, budget_of, headers_of}
use Rattle.elf_capi.specs.Ends.{IsOpenedTable}
use Rattle.elf_capi.specs.Wants.{IsWanting}
use Rattle.elf_capi.specs.declared.end.CallEnd.{CallEnd}
use Rattle.elf_capi.specs.declared.limits.CallerLimits.{CallerLimits}

-- such symbols within a budget, in a file of the given size: a position before the first; or the
-- refusal, which is for lack of budget only if they cost more
abbrev pub ReadsHashed : List ℕ → (headers : ℕ) → Option ℕ → (size : ℕ) → Result (Option RowPosition) Refusal → Type 0
ReadsHashed file headers budget size (Ok None) = ⊥
ReadsHashed file headers budget size (Ok (Some rows)) = ReturnsHashedRows file headers (Ok rows)
ReadsHashed file headers budget size (Err refusal) =
    ReturnsHashedRows file headers (Err (Refused refusal)) × (IsBudgetRefusal refusal → IsWanting budget (hashed_cost file headers) size refusal)

-- the file as viewed: for a flag of 1, with the section header fields of its header set to zero
abbrev pub by_flags : ℕ → List ℕ → List ℕ
by_flags flags file = looked_at (flags == 1) file

-- limits in range, room for a header, and no other flag
abbrev MayOpenHashed : CallerLimits → (room flags : ℕ) → Type 0
MayOpenHashed limits room flags = AreInRange limits room × (flags ≤ 1)

-- what a call opens
abbrev pub OpensHashed : List ℕ → CallerLimits → (room flags : ℕ) → Option (Result (Option RowPosition) Refusal) → Type 0
OpensHashed file limits room flags None = MayOpenHashed limits room flags → ⊥
OpensHashed file limits room flags (Some read) =
    MayOpenHashed limits room flags × ReadsHashed (by_flags flags file) (headers_of limits room) (budget_of limits) (length file) read

-- WHAT A CALLER HAS of these symbols, with the given bytes of room: what was opened, as the numbers
-- have it, and besides how many bytes were requested
pub record HasHashed (file : List ℕ) (limits : CallerLimits) (room flags status : ℕ) (old new : RowPosition) (end : CallEnd) : Type 0 where
  pub opened : Option (Result (Option RowPosition) Refusal)
  pub opens : OpensHashed file limits room flags opened
  pub told : CallEnd
  pub tells : IsOpenedTable status old new told opened
  pub same : (end.cause ≡ told.cause) × (end.at ≡ told.at) × (end.written ≡ told.written) × (end.none ≡ told.none)
  pub cost : end.asked ≤ hashed_cost (by_flags flags file) (headers_of limits room)
  pub budget : IfSome (budget_of limits) (λ bytes. end.asked ≤ bytes)
