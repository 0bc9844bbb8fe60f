-- Where a read budget ends a listing.
use Rattle.elf_model.specs.Prelude.{ALL, Answer, Fault, HEADER, IsBudgetRefusal, IsBudgeted, IsCut, IsShown, Line, cost, fault_of, items, lines_of, one_symbol_table, refusal_line, report, report_fault, show_answer, standard}
use Rattle.elf_model.specs.declared.causes.Cause.TheVariants.{Budget, Short}
use Rattle.elf_model.specs.declared.formats.Format.TheVariants.{Columns}
use Rattle.elf_model.specs.declared.causes.Refusal.{Refusal}
use Rattle.std.specs.Prelude.{ℕ, ◌≡◌, ◌<◌, ◌⊎◌, ◌++◌, List, [], ◌∷◌, length, take, Option, None, Some, codes}

-- the refusal of a read at an offset, when the budget is exhausted
abbrev pub spent_at : ℕ → Refusal
spent_at at = record { at = at; cause = Budget }

-- a text is this many items of a listing that costs more than a budget, and the line of a read at
-- an offset of the file
abbrev pub EndsAfter : (file : List ℕ) (headers cap parts budget count at : ℕ) (text : List ℕ) → Type 0
EndsAfter file headers cap parts budget count at text =
    (budget < cost file headers cap parts)
    × (at < length file)
    × (fault_of (take count (items file headers cap parts)) ≡ None)
    × (text ≡ lines_of (take count (items file headers cap parts)) ++ refusal_line Columns (spent_at at))

-- the lines of a listing that costs more than a budget, and the line of a read that exceeds it, are
-- what the budget allows
abbrev pub BudgetMayEndAListing : Type 0
BudgetMayEndAListing =
    (file : List ℕ) (headers cap parts budget count at : ℕ) (text : List ℕ)
    → EndsAfter file headers cap parts budget count at text
    → IsBudgeted (Some budget) file headers (standard cap) parts text (Some (spent_at at))

-- nothing else is: without a budget the report and its fault, with one these or such a text and the
-- refusal of its read
abbrev pub NothingElseIsAllowed : Type 0
NothingElseIsAllowed =
    (file : List ℕ) (headers cap parts : ℕ) (text : List ℕ) (fault : Option Refusal)
    → (IsBudgeted None file headers (standard cap) parts text fault
    → (text ≡ report file headers cap parts) × (fault ≡ report_fault file headers cap parts))
    × ((budget : ℕ)
    → IsBudgeted (Some budget) file headers (standard cap) parts text fault
    → ((text ≡ report file headers cap parts) × (fault ≡ report_fault file headers cap parts))
    ⊎ ((count : ℕ) × (at : ℕ) × (fault ≡ Some (spent_at at)) × EndsAfter file headers cap parts budget count at text))

-- not a cut of a file of 64 bytes: an offset at the file's length, another cause, no fault, the
-- fault of another offset, a line that is not the first, the fault's line before the budget's
abbrev pub OtherTextsAreNoCuts : Type 0
OtherTextsAreNoCuts =
    (IsCut Columns 64 [] (codes "! 0000000000000040 budget\n") (Some (spent_at 64)) → ⊥)
    × (IsCut Columns 64 [] (codes "! 0000000000000000 short\n") (Some (record { at = 0; cause = Short })) → ⊥)
    × (IsCut Columns 64 [] (codes "! 0000000000000000 budget\n") None → ⊥)
    × (IsCut Columns 64 [] (codes "! 0000000000000001 budget\n") (Some (spent_at 0)) → ⊥)
    × (IsCut Columns 64 (Line (codes "a") ∷ []) (codes "b! 0000000000000000 budget\n") (Some (spent_at 0)) → ⊥)
    × (IsCut Columns 64 (Line (codes "a") ∷ Line (codes "b") ∷ []) (codes "b! 0000000000000000 budget\n") (Some (spent_at 0)) → ⊥)
    × (IsCut Columns 64 (Fault (record { at = 0; cause = Short }) ∷ [])
    (codes "! 0000000000000000 short\n! 0000000000000000 budget\n") (Some (spent_at 0))
    → ⊥)

-- a whole result is shown within every budget, and without one; what a budget allows is shown with
-- status 1
abbrev pub AllowedAnswersAreShown : Type 0
AllowedAnswersAreShown =
    (file : List ℕ) (headers cap parts : ℕ)
    → ((budget : Option ℕ) → IsShown budget file headers (standard cap) parts (show_answer file headers cap parts))
    × ((budget count at : ℕ) (text : List ℕ)
    → EndsAfter file headers cap parts budget count at text
    → IsShown (Some budget) file headers (standard cap) parts (record { text = text; status = 1 }))

-- and nothing else is shown
abbrev pub NothingElseIsShown : Type 0
NothingElseIsShown =
    (file : List ℕ) (headers cap parts : ℕ) (answer : Answer)
    → (IsShown None file headers (standard cap) parts answer → answer ≡ show_answer file headers cap parts)
    × ((budget : ℕ)
    → IsShown (Some budget) file headers (standard cap) parts answer
    → (answer ≡ show_answer file headers cap parts)
    ⊎ ((answer.status ≡ 1) × ((count : ℕ) × (at : ℕ) × EndsAfter file headers cap parts budget count at answer.text)))

-- what is listed after the file header's line if the section headers can't be read any more
abbrev pub header_and_budget : List ℕ
header_and_budget =
    codes "H REL     62 0000000000000000 0000000000000000 0000000000000078 00000000     0     3     0\n! 0000000000000078 budget\n"

-- budgets of less than the file header end a listing at once, one of the file header ends it before
-- the section headers, and one byte too few ends it before the last name
abbrev pub BudgetsThatEnd : Type 0
BudgetsThatEnd =
    EndsAfter one_symbol_table 3 63 ALL 0 0 0 (codes "! 0000000000000000 budget\n")
    × EndsAfter one_symbol_table 3 63 ALL 63 0 0 (codes "! 0000000000000000 budget\n")
    × EndsAfter one_symbol_table 3 63 ALL 64 1 0x78 header_and_budget
    × EndsAfter one_symbol_table 3 63 ALL 431 5 0x71
    (lines_of (take 5 (items one_symbol_table 3 63 ALL)) ++ refusal_line Columns (spent_at 0x71))

-- a budget of the cost allows only the report: of a whole listing, and of the file header's line
abbrev pub BudgetsThatSuffice : Type 0
BudgetsThatSuffice =
    (text : List ℕ) (fault : Option Refusal)
    → (IsBudgeted (Some 432) one_symbol_table 3 (standard 63) ALL text fault → text ≡ report one_symbol_table 3 63 ALL)
    × (IsBudgeted (Some 64) one_symbol_table 3 (standard 63) HEADER text fault → text ≡ report one_symbol_table 3 63 HEADER)

-- a listing without a fault that ends in one was cut short by the budget, at a read below the
-- file's length
abbrev pub CutsAreForBudget : Type 0
CutsAreForBudget =
    (text : List ℕ) (refusal : Refusal)
    → IsBudgeted (Some 0) one_symbol_table 3 (standard 63) ALL text (Some refusal)
    → IsBudgetRefusal refusal × (refusal.at < 312)

-- an empty file is short under every budget
abbrev pub EmptyFileIsShort : Type 0
EmptyFileIsShort =
    (budget : ℕ) (text : List ℕ) (fault : Option Refusal)
    → IsBudgeted (Some budget) [] 3 (standard 63) ALL text fault
    → text ≡ codes "! 0000000000000000 short\n"

-- a text and a status as they are shown of one symbol table within a budget
abbrev pub ShowsWithin : Option ℕ → ℕ → List ℕ → ℕ → Type 0
ShowsWithin budget parts text status = IsShown budget one_symbol_table 3 (standard 63) parts (record { text = text; status = status })

-- a cut is shown if the budget is below the cost, and not with status 0, within a budget of the
-- cost or without a budget; a whole listing is shown only with its own text and status
abbrev pub OtherAnswersAreNotShown : Type 0
OtherAnswersAreNotShown =
    ShowsWithin (Some 64) ALL header_and_budget 1
    × (ShowsWithin (Some 64) ALL header_and_budget 0 → ⊥)
    × (ShowsWithin (Some 432) ALL header_and_budget 1 → ⊥)
    × (ShowsWithin None ALL header_and_budget 1 → ⊥)
    × ShowsWithin None HEADER (report one_symbol_table 3 63 HEADER) 0
    × (ShowsWithin None HEADER (report one_symbol_table 3 63 HEADER) 1 → ⊥)
    × (ShowsWithin None HEADER [] 0 → ⊥)
    × (ShowsWithin (Some 64) HEADER (report one_symbol_table 3 63 HEADER) 1 → ⊥)
    × (ShowsWithin (Some 64) HEADER [] 0 → ⊥)
