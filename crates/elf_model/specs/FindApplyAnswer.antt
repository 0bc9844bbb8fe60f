-- The results of `find` and `apply`: a text, and an exit status.
use Rattle.std.specs.Prelude.{ℕ, ◌≡◌, ◌<◌, ◌⊎◌, true, false, List, ◌++◌, Option, None, Some, Result, Ok, Err}
use Rattle.elf_model.specs.Answer.{Answer}
use Rattle.elf_model.specs.Apply.{applied}
use Rattle.elf_model.specs.Budget.{IsBudgetRefusal}
use Rattle.elf_model.specs.Find.{looked}
use Rattle.elf_model.specs.Hash.{Outcome, Found, Absent, Refused}
use Rattle.elf_model.specs.LineFronts.{symbol_prefix}
use Rattle.elf_model.specs.Lines.{named_line, steps_line, refusal_line}
use Rattle.elf_model.specs.declared.formats.Format.{Format}
use Rattle.elf_model.specs.declared.formats.Format.TheVariants.{Columns}
use Rattle.elf_model.specs.Names.DisplayedName.{Whole}
use Rattle.elf_model.specs.Placing.{Layout}
use Rattle.elf_model.specs.Records.{e_machine}
use Rattle.elf_model.specs.declared.causes.Refusal.{Refusal}

-- the text of a lookup's result after this many names are compared: the symbol's line, under the
-- wanted name, and the number; the number alone; the refusal
abbrev pub lookup_text : Format → List ℕ → List ℕ → Outcome → ℕ → List ℕ
lookup_text format file wanted (Found section index symbol) compared =
    named_line (symbol_prefix format false (e_machine file) file symbol section index) (Whole wanted) ++ steps_line format true compared
lookup_text format file wanted Absent compared = steps_line format false compared
lookup_text format file wanted (Refused refusal) compared = refusal_line format refusal

-- 0 if the name is found
abbrev pub lookup_status : Outcome → ℕ
lookup_status (Found section index symbol) = 0
lookup_status Absent = 1
lookup_status (Refused refusal) = 1

-- `find`: the lookup of a name in a file
abbrev pub find_answer : Format → List ℕ → ℕ → List ℕ → Answer
find_answer format file headers wanted =
    let lookup = looked file headers wanted in
    record { text = lookup_text format file wanted lookup.answer lookup.compared; status = lookup_status lookup.answer }

-- the section's bytes, or the refusal's line
abbrev pub applied_text : Result (List ℕ) Refusal → List ℕ
applied_text (Ok bytes) = bytes
applied_text (Err refusal) = refusal_line Columns refusal

-- 0 if the relocations are applied
abbrev pub applied_status : Result (List ℕ) Refusal → ℕ
applied_status (Ok bytes) = 0
applied_status (Err refusal) = 1

-- `apply`: the bytes of a section with its relocations applied
abbrev pub apply_answer : List ℕ → ℕ → ℕ → Layout → Answer
apply_answer file headers section layout =
    let result = applied file headers section layout in
    record { text = applied_text result; status = applied_status result }

-- a result is the line of a budget refusal alone, whose offset is below the file's length, with
-- status 1
pub record IsOutOfBudget (format : Format) (size : ℕ) (answer : Answer) : Type 0 where
  pub refusal : Refusal
  pub for_budget : IsBudgetRefusal refusal
  pub inside : refusal.at < size
  pub answer_is : answer ≡ record { text = refusal_line format refusal; status = 1 }

-- the result within a budget: all of it; or, if it costs more than the budget, that refusal
abbrev pub IsAnswered : Format → Option ℕ → (size cost : ℕ) → (whole answer : Answer) → Type 0
IsAnswered format None size cost whole answer = answer ≡ whole
IsAnswered format (Some budget) size cost whole answer = (answer ≡ whole) ⊎ ((budget < cost) × IsOutOfBudget format size answer)
