-- What a budget allows, by the number of lines and the offset of the read; and what is shown, by
-- what a budget allows.
use Rattle.elf_model.specs.Prelude.{Answer, IsBudgetRefusal, IsBudgeted, IsCut, IsShown, ListingItem, fault_of, items, lines_of, refusal_line, report, report_fault, show_answer, standard, status_of}
use Rattle.elf_model.specs.declared.formats.Format.TheVariants.{Columns}
use Rattle.elf_model.specs.declared.causes.Refusal.{Refusal}
use Rattle.std.proofs.Common.{◌≡◌, ◌<◌, ◌⊎◌, ℕ, List, ◌++◌, length, take, drop, Option, None, Some, refl, ap, sym, ◌∙◌, inl, inr}
use Rattle.std.proofs.Math.Seq.{take-append_seam}
use Rattle.std.proofs.lemmas.List.{take-append-drop}
use Rattle.elf_examples.specs.ListedBudgets.{spent_at, EndsAfter, BudgetMayEndAListing, NothingElseIsAllowed, AllowedAnswersAreShown, NothingElseIsShown}

-- a cut by the number of its lines and the offset of its read
abbrev pub CutAfter : ℕ → List ListingItem → List ℕ → Option Refusal → Type 0
CutAfter size all text fault =
    (count : ℕ) × (at : ℕ) × (fault ≡ Some (spent_at at)) × (at < size) × (fault_of (take count all) ≡ None)
    × (text ≡ lines_of (take count all) ++ refusal_line Columns (spent_at at))

front_taken : (all front rest : List ListingItem) → all ≡ front ++ rest → take (length front) all ≡ front
front_taken all front rest split = ap (take (length front)) split ∙ take-append_seam front rest

budget_spent : (refusal : Refusal) → IsBudgetRefusal refusal → refusal ≡ spent_at refusal.at
budget_spent refusal budget = rw budget refl

pub cut_after : (size : ℕ) (all : List ListingItem) (text : List ℕ) (fault : Option Refusal) → IsCut Columns size all text fault → CutAfter size all text fault
cut_after size all text fault cut =
    let taken = front_taken all cut.front cut.rest cut.split in
    let spent = budget_spent cut.refusal cut.for_budget in
    let lines = ap (λ front. lines_of front ++ refusal_line Columns cut.refusal) (sym taken) in
    let line = ap (λ refusal. lines_of (take (length cut.front) all) ++ refusal_line Columns refusal) spent in (
      length cut.front,
      cut.refusal.at,
      cut.fault_is ∙ ap Some spent,
      cut.inside,
      ap fault_of taken ∙ cut.no_fault,
      cut.text_is ∙ lines ∙ line,
    )

pub after_cut : BudgetMayEndAListing
after_cut file headers cap parts budget count at text ends =
    let all = items file headers cap parts in
    inr (
      ends.0,
      record {
        front = take count all;
        rest = drop count all;
        split = sym (take-append-drop count all);
        no_fault = ends.2;
        refusal = spent_at at;
        for_budget = refl;
        inside = ends.1;
        text_is = ends.3;
        fault_is = refl;
      },
    )

pub allowed : (file : List ℕ) (headers cap parts budget : ℕ) (text : List ℕ) (fault : Option Refusal) → IsBudgeted (Some budget) file headers (standard cap) parts text fault
    → ((text ≡ report file headers cap parts) × (fault ≡ report_fault file headers cap parts))
    ⊎ ((count : ℕ) × (at : ℕ) × (fault ≡ Some (spent_at at)) × EndsAfter file headers cap parts budget count at text)
allowed file headers cap parts budget text fault (inl is) = inl (is.text_is, is.fault_is)
allowed file headers cap parts budget text fault (inr (dear, cut)) =
    let ends = cut_after (length file) (items file headers cap parts) text fault cut in
    inr (ends.0, ends.1, ends.2, (dear, ends.3, ends.4, ends.5))

pub nothing_else : NothingElseIsAllowed
nothing_else file headers cap parts text fault =
    (λ is. (is.text_is, is.fault_is), λ budget is. allowed file headers cap parts budget text fault is)

-- a result by its text and the fault that it returns
abbrev answer_by : List ℕ → Option Refusal → Answer
answer_by text fault = record { text = text; status = status_of fault }

whole_answer : (file : List ℕ) (headers cap parts : ℕ) (text : List ℕ) (fault : Option Refusal)
    → text ≡ report file headers cap parts → fault ≡ report_fault file headers cap parts
    → answer_by text fault ≡ show_answer file headers cap parts
whole_answer file headers cap parts text fault text_is fault_is =
    ap (λ t. answer_by t fault) text_is ∙ ap (λ f. answer_by (report file headers cap parts) f) fault_is

-- what a budget allows is shown with the status of its fault
pub allowed_shown : (budget : Option ℕ) (file : List ℕ) (headers cap parts : ℕ) (text : List ℕ) (fault : Option Refusal)
    → IsBudgeted budget file headers (standard cap) parts text fault → IsShown budget file headers (standard cap) parts (answer_by text fault)
allowed_shown budget file headers cap parts text fault is = record { fault = fault; listed = is; status_is = refl }

-- what is shown is allowed by a budget, and its status is that of its fault
abbrev Allowed : Option ℕ → List ℕ → ℕ → ℕ → ℕ → Answer → Type 0
Allowed budget file headers cap parts answer =
    (fault : Option Refusal) × IsBudgeted budget file headers (standard cap) parts answer.text fault × (answer.status ≡ status_of fault)

pub shown_allowed : (budget : Option ℕ) (file : List ℕ) (headers cap parts : ℕ) (answer : Answer)
    → IsShown budget file headers (standard cap) parts answer → Allowed budget file headers cap parts answer
shown_allowed budget file headers cap parts answer shown = (shown.fault, shown.listed, shown.status_is)

whole_shown : (budget : Option ℕ) (file : List ℕ) (headers cap parts : ℕ) → IsShown budget file headers (standard cap) parts (show_answer file headers cap parts)
whole_shown None file headers cap parts =
    allowed_shown None file headers cap parts (report file headers cap parts) (report_fault file headers cap parts)
    (record { text_is = refl; fault_is = refl })
whole_shown (Some budget) file headers cap parts =
    allowed_shown (Some budget) file headers cap parts (report file headers cap parts) (report_fault file headers cap parts)
    (inl (record { text_is = refl; fault_is = refl }))

pub answers_shown : AllowedAnswersAreShown
answers_shown file headers cap parts = (
  λ budget. whole_shown budget file headers cap parts,
  λ budget count at text ends.
      allowed_shown (Some budget) file headers cap parts text (Some (spent_at at))
      (after_cut file headers cap parts budget count at text ends),
)

-- a result with the status of its fault
answered : (answer : Answer) (fault : Option Refusal) → answer.status ≡ status_of fault → answer ≡ answer_by answer.text fault
answered answer fault status = ap (λ s. record { text = answer.text; status = s }) status

shown_whole : (file : List ℕ) (headers cap parts : ℕ) (answer : Answer) (fault : Option Refusal) → answer.status ≡ status_of fault
    → (answer.text ≡ report file headers cap parts) × (fault ≡ report_fault file headers cap parts)
    → answer ≡ show_answer file headers cap parts
shown_whole file headers cap parts answer fault status is =
    answered answer fault status ∙ whole_answer file headers cap parts answer.text fault is.0 is.1

-- a result that is cut short
abbrev pub EndsEarly : List ℕ → ℕ → ℕ → ℕ → ℕ → Answer → Type 0
EndsEarly file headers cap parts budget answer =
    (answer.status ≡ 1) × ((count : ℕ) × (at : ℕ) × EndsAfter file headers cap parts budget count at answer.text)

within : (file : List ℕ) (headers cap parts budget : ℕ) (answer : Answer) (fault : Option Refusal) → answer.status ≡ status_of fault
    → (((answer.text ≡ report file headers cap parts) × (fault ≡ report_fault file headers cap parts))
    ⊎ ((count : ℕ) × (at : ℕ) × (fault ≡ Some (spent_at at)) × EndsAfter file headers cap parts budget count at answer.text))
    → (answer ≡ show_answer file headers cap parts) ⊎ EndsEarly file headers cap parts budget answer
within file headers cap parts budget answer fault status (inl is) = inl (shown_whole file headers cap parts answer fault status is)
within file headers cap parts budget answer fault status (inr (count, at, is, ends)) = inr (status ∙ ap status_of is, (count, at, ends))

pub nothing_shown : NothingElseIsShown
nothing_shown file headers cap parts answer = (
  λ shown.
      let is = shown_allowed None file headers cap parts answer shown in
      shown_whole file headers cap parts answer is.0 is.2 (is.1.text_is, is.1.fault_is),
  λ budget shown.
      let is = shown_allowed (Some budget) file headers cap parts answer shown in
      within file headers cap parts budget answer is.0 is.2 (allowed file headers cap parts budget answer.text is.0 is.1),
)
