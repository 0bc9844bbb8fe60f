-- Rows within a budget: what is read counts, over all tables.
use Rattle.std.specs.Prelude.{ℕ, ◌≡◌, ◌<◌, ◌≤◌, ◌+◌, ◌-◌, ◌*◌, ◌/◌, ◌^◌, ◌==◌, min, nat_lt, if◌then◌else◌, List, length, slice_index_or, Option, None, Some, Result, Ok, Err, IfSome}
use Rattle.elf_model.specs.declared.causes.Cause.TheVariants.{Budget}
use Rattle.elf_model.specs.declared.causes.Refusal.{Refusal}
use Rattle.elf_capi.specs.ListedEntries.{ReadsListed}
use Rattle.elf_capi.specs.Rows.{StepsRows, next_at, rows_left}
use Rattle.elf_capi.specs.declared.rows.RowPosition.{RowPosition}
use Rattle.elf_capi.specs.Causes.{cause_number}
use Rattle.elf_capi.specs.Ends.{IsOpenedTable, no_end, refused_end}
use Rattle.elf_capi.specs.Limits.{budget_of}
use Rattle.elf_capi.specs.declared.end.CallEnd.{CallEnd}
use Rattle.elf_capi.specs.declared.limits.CallerLimits.{CallerLimits}

-- how many bytes may still be read if n were requested: 2^64 - 1 if there is no budget
abbrev pub budget_left : Option ℕ → ℕ → ℕ
budget_left None asked = 2 ^ 64 - 1
budget_left (Some budget) asked = budget - asked

-- n more bytes were requested, saturating at 2^64 - 1
abbrev pub asked_more : ℕ → ℕ → ℕ
asked_more asked bytes = min (asked + bytes) (2 ^ 64 - 1)

-- how many dynamic entries an opening read: those that it gives, or if they are too many the
-- maximum
abbrev pub entries_looked : ℕ → Option (Result (Option RowPosition) Refusal) → ℕ
entries_looked most None = 0
entries_looked most (Some (Ok None)) = 0
entries_looked most (Some (Ok (Some rows))) = rows.count
entries_looked most (Some (Err refusal)) = if cause_number refusal.cause == 28 then most else 0

-- an opening for which no number of the call is invalid
abbrev pub OpensAlways : (Result (Option RowPosition) Refusal → Type 0) → Option (Result (Option RowPosition) Refusal) → Type 0
OpensAlways reads (Some read) = reads read
OpensAlways reads None = ⊥

-- an opening of dynamic entries of which at most n are read
abbrev pub OpensEntries : (Option (Result (Option RowPosition) Refusal) → Type 0) → ℕ → Option (Result (Option RowPosition) Refusal) → Type 0
OpensEntries opens most (Some read) = ReadsListed (λ within. opens (Some within)) most read
OpensEntries opens most None = opens None

-- WHAT A CALL OPENS WITHIN A BUDGET, AS NUMBERS: the result of that opening, if its entries are not
-- more than the budget has left; otherwise a refusal for lack of budget. The entries that were read
-- count 16 bytes each
pub record ReturnsEntries (opens : Option (Result (Option RowPosition) Refusal) → Type 0) (limits : CallerLimits) (asked later status : ℕ) (old new : RowPosition) (end : CallEnd) : Type 0 where
  pub opened : Option (Result (Option RowPosition) Refusal)
  pub is_opened : OpensEntries opens (budget_left (budget_of limits) asked / 16) opened
  pub tells : IsOpenedTable status old new end opened
  pub counts : later ≡ asked_more asked (16 * entries_looked (budget_left (budget_of limits) asked / 16) opened)

-- how a step ends: if rows are left, and room for some, the budget ended it, and the refusal is at
-- the next row
abbrev pub step_end : ℕ → ℕ → RowPosition → ℕ → CallEnd
step_end size entry rows free =
    if nat_lt 0 (min (rows_left size rows entry) free) then refused_end (record { at = next_at rows entry 0; cause = Budget }) else no_end

-- A STEP WITHIN A BUDGET: over as many of the next entries as there are, as fit, and as the budget
-- has left, each of which counts
pub record StepsBudgeted (size entry : ℕ) (limits : CallerLimits) (asked later : ℕ) (old new : RowPosition) (room count : ℕ) (end : CallEnd) : Type 0 where
  pub steps : StepsRows size entry old new (min room (budget_left (budget_of limits) asked / entry)) count
  pub counts : later ≡ asked_more asked (entry * count)
  pub tells : end ≡ step_end size entry new (room - count)

-- THE ROWS THAT A STEP READS WITHIN A BUDGET: each is the entry at its place in the file
pub record ReadsBudgeted {Row : Type 0} (entry : ℕ) (is_at : List ℕ → ℕ → Row → Type 0) (file : List ℕ) (limits : CallerLimits) (asked later : ℕ) (old new : RowPosition) (room : ℕ) (out : List Row) (count : ℕ) (end : CallEnd) : Type 0 where
  pub steps : StepsBudgeted (length file) entry limits asked later old new room count end
  pub budget : IfSome (budget_of limits) (λ bytes. asked ≤ bytes → later ≤ bytes)
  pub read : (k : ℕ) (none : Row) → k < count → is_at file (next_at old entry k) (slice_index_or out k none)
