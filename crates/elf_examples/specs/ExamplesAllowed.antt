-- What a budget allows of a result, of a file's state, and of what a search for a NUL keeps.
use Rattle.std.specs.Prelude.{◌≡◌, ◌<◌, ℕ, true, false, List, [], ◌∷◌, Option, None, Some}
use Rattle.elf_model.specs.Prelude.{Answer, IsAnswered, IsBytes, IsStateOf, ListingStyle, NulFound, fault_of, listing, refusal_line, state_of}
use Rattle.elf_model.specs.declared.causes.Cause.TheVariants.{Budget}
use Rattle.elf_model.specs.declared.formats.Format.TheVariants.{Columns}
use Rattle.elf_model.specs.declared.states.FileStatus.{FileStatus}

-- the line of a read at an offset that exceeds a budget, alone, with status 1
abbrev pub budget_answer : ℕ → Answer
budget_answer at = record { text = refusal_line Columns (record { at = at; cause = Budget }); status = 1 }

-- without a budget, and within one of the cost, the result is whole
abbrev pub TheCostSuffices : Type 0
TheCostSuffices =
    (size cost : ℕ) (whole answer : Answer)
    → (IsAnswered Columns None size cost whole answer → answer ≡ whole) × (IsAnswered Columns (Some cost) size cost whole answer → answer ≡ whole)

-- within less the result is the whole or that line, whose offset is below the file's length, and
-- nothing else
abbrev pub LessMayEndAnAnswer : Type 0
LessMayEndAnAnswer =
    (size cost budget : ℕ) (whole : Answer)
    → budget < cost
    → IsAnswered Columns (Some budget) size cost whole whole
    × ((at : ℕ) → at < size → IsAnswered Columns (Some budget) size cost whole (budget_answer at))

-- a file's state without a budget is that of its report's fault
abbrev pub StatesOfReports : Type 0
StatesOfReports =
    (file : List ℕ) (headers : ℕ) (style : ListingStyle) (parts : ℕ) (found : FileStatus)
    → IsStateOf None file headers style parts found → found ≡ state_of None file (fault_of (listing file headers style parts))

-- within a budget it is that of the listing's fault, by as many of the file's bytes as the budget
-- allows to be read
abbrev pub StatesWithinABudget : Type 0
StatesWithinABudget =
    (budget : Option ℕ) (file : List ℕ) (headers : ℕ) (style : ListingStyle) (parts : ℕ) (found : FileStatus)
    → (its : IsStateOf budget file headers style parts found) → found ≡ state_of budget file its.fault

-- of bytes with a NUL those before it are kept, up to the cap; of others all, up to the cap
abbrev pub BytesBeforeANul : Type 0
BytesBeforeANul =
    (kept : List ℕ)
    → (NulFound (97 ∷ 98 ∷ 0 ∷ 99 ∷ []) 5 true kept → kept ≡ 97 ∷ 98 ∷ [])
    × (NulFound (97 ∷ 98 ∷ 0 ∷ 99 ∷ []) 1 true kept → kept ≡ 97 ∷ [])
    × (NulFound (97 ∷ 98 ∷ []) 1 false kept → kept ≡ 97 ∷ [])
    × (NulFound (97 ∷ 98 ∷ []) 5 true kept → ⊥)
    × (NulFound (97 ∷ 0 ∷ []) 5 false kept → ⊥)

-- a byte is below 256
abbrev pub BytesAreSmall : Type 0
BytesAreSmall = (IsBytes (256 ∷ []) → ⊥) × (IsBytes (0 ∷ 256 ∷ []) → ⊥) × IsBytes []
