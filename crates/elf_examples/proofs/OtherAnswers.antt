-- Results that are not shown, one by one.
use Rattle.std.proofs.Common.{◌≡◌, ◌<◌, ◌⊎◌, ℕ, List, [], length, None, Some, refl, ap, sym, inl, inr, arith}
use Rattle.elf_model.specs.Prelude.{ALL, Answer, HEADER, one_symbol_table, report, show_answer}
use Rattle.elf_model.proofs.OnLiterals.{on_literals}
use Rattle.elf_examples.specs.ListedBudgets.{EndsAfter, OtherAnswersAreNotShown, ShowsWithin, header_and_budget}
use Rattle.elf_examples.proofs.Budgets.{EndsEarly, answers_shown, nothing_shown}
use Rattle.elf_examples.proofs.OtherTexts.{clash, same_byte}

-- a result for one symbol table
abbrev answer : List ℕ → ℕ → Answer
answer text status = record { text = text; status = status }

-- what is shown within a budget, or without one, is the whole result or ends early
abbrev IsWhole : ℕ → List ℕ → ℕ → Type 0
IsWhole parts text status = answer text status ≡ show_answer one_symbol_table 3 63 parts

without : (parts : ℕ) (text : List ℕ) (status : ℕ) → ShowsWithin None parts text status → IsWhole parts text status
without parts text status shown = (nothing_shown one_symbol_table 3 63 parts (answer text status)).0 shown

within : (budget parts : ℕ) (text : List ℕ) (status : ℕ) → ShowsWithin (Some budget) parts text status
    → IsWhole parts text status ⊎ EndsEarly one_symbol_table 3 63 parts budget (answer text status)
within budget parts text status shown = (nothing_shown one_symbol_table 3 63 parts (answer text status)).1 budget shown

-- the whole results have status 0, and these lengths
whole_status : (text : List ℕ) → (IsWhole ALL text 1 → ⊥) × (IsWhole HEADER text 1 → ⊥)
unfolding on_literals
whole_status text = (λ is. clash 0 1 (omega arith) (sym (ap (λ a. a.status) is)), λ is. clash 0 1 (omega arith) (sym (ap (λ a. a.status) is)))

not_empty : (status : ℕ) → IsWhole HEADER [] status → ⊥
unfolding on_literals
not_empty status is = clash 0 91 (omega arith) (ap (λ a. length a.text) is)

not_cut : (status : ℕ) → IsWhole ALL header_and_budget status → ⊥
unfolding on_literals
not_cut status is =
    clash 33 83 (omega arith) (same_byte 91 header_and_budget (report one_symbol_table 3 63 ALL) (ap (λ a. a.text) is))

ends : EndsAfter one_symbol_table 3 63 ALL 64 1 0x78 header_and_budget
unfolding on_literals
ends = (omega arith, omega arith, refl, refl)

header_alone : ShowsWithin None HEADER (report one_symbol_table 3 63 HEADER) 0
unfolding on_literals
header_alone = (answers_shown one_symbol_table 3 63 HEADER).0 None

status_zero : ShowsWithin (Some 64) ALL header_and_budget 0 → ⊥
status_zero shown = by (within 64 ALL header_and_budget 0 shown)
  where
    by : IsWhole ALL header_and_budget 0 ⊎ EndsEarly one_symbol_table 3 63 ALL 64 (answer header_and_budget 0) → ⊥
    by (inl is) = not_cut 0 is
    by (inr early) = clash 0 1 (omega arith) early.0

ample : ShowsWithin (Some 432) ALL header_and_budget 1 → ⊥
unfolding on_literals
ample shown = by (within 432 ALL header_and_budget 1 shown)
  where
    by : IsWhole ALL header_and_budget 1 ⊎ EndsEarly one_symbol_table 3 63 ALL 432 (answer header_and_budget 1) → ⊥
    by (inl is) = (whole_status header_and_budget).0 is
    by (inr (status, (count, at, early))) = let less : 432 < 432 = early.0 in omega arith

header_status : ShowsWithin (Some 64) HEADER (report one_symbol_table 3 63 HEADER) 1 → ⊥
unfolding on_literals
header_status shown = by (within 64 HEADER (report one_symbol_table 3 63 HEADER) 1 shown)
  where
    by : IsWhole HEADER (report one_symbol_table 3 63 HEADER) 1 ⊎ EndsEarly one_symbol_table 3 63 HEADER 64 (answer (report one_symbol_table 3 63 HEADER) 1) → ⊥
    by (inl is) = (whole_status (report one_symbol_table 3 63 HEADER)).1 is
    by (inr (status, (count, at, early))) = let less : 64 < 64 = early.0 in omega arith

header_text : ShowsWithin (Some 64) HEADER [] 0 → ⊥
header_text shown = by (within 64 HEADER [] 0 shown)
  where
    by : IsWhole HEADER [] 0 ⊎ EndsEarly one_symbol_table 3 63 HEADER 64 (answer [] 0) → ⊥
    by (inl is) = not_empty 0 is
    by (inr early) = clash 0 1 (omega arith) early.0

pub not_shown : OtherAnswersAreNotShown
not_shown = (
  (answers_shown one_symbol_table 3 63 ALL).1 64 1 0x78 header_and_budget ends,
  status_zero,
  ample,
  λ shown. (whole_status header_and_budget).0 (without ALL header_and_budget 1 shown),
  header_alone,
  λ shown. (whole_status (report one_symbol_table 3 63 HEADER)).1 (without HEADER (report one_symbol_table 3 63 HEADER) 1 shown),
  λ shown. not_empty 0 (without HEADER [] 0 shown),
  header_status,
  header_text,
)
