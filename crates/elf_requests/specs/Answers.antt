-- The results of a run.
use Rattle.std.specs.Prelude.{ℕ, ◌≡◌, ◌<◌, ◌+◌, ⊤, List, ◌++◌, Option, Some, Result, Ok, Err}
use Rattle.elf_model.specs.Prelude.{Answer, IsBudgetRefusal, refusal_line_in}
use Rattle.elf_model.specs.declared.fault_rows.FaultRow.{FaultRow}
use Rattle.elf_model.specs.declared.formats.Format.{Format}
use Rattle.elf_model.specs.declared.causes.Refusal.{Refusal}
use Rattle.elf_source.specs.Prelude.{CountedState, OutState, SinkTakes, SinkTakesPrefix}
use Rattle.elf_table.specs.declared.run_fault.RunFault.TheVariants.{Out}
use Rattle.elf_table.specs.declared.run_fault.RunFault.{RunFault}
use Rattle.elf_table.specs.declared.run_fault.RunFault.TheVariants.{Refused, Source}

-- a text ends in the line of a refusal, in a table with a row that it may be in
abbrev pub EndsInRefusal : Refusal → List ℕ → Type 0
EndsInRefusal refusal text = (format : Format) × (row : FaultRow) × (lines : List ℕ) × (text ≡ lines ++ refusal_line_in format row refusal)

-- an answer was written and its status returned, which is 1 if its last line is a refusal; or a
-- prefix of its text was written
abbrev pub WroteAnswer : OutState → OutState → Result ℕ RunFault → Answer → Type 0
WroteAnswer old new (Ok status) answer = SinkTakes old new answer.text × (status ≡ answer.status)
WroteAnswer old new (Err (Refused refusal)) answer = SinkTakes old new answer.text × (1 ≡ answer.status) × EndsInRefusal refusal answer.text
WroteAnswer old new (Err (Source fault at)) answer = SinkTakesPrefix old new answer.text
WroteAnswer old new (Err (Out fault)) answer = SinkTakesPrefix old new answer.text

-- fewer than 4,096 bytes of a budget are left
abbrev IsUsedUp : Option ℕ → CountedState → CountedState → Type 0
IsUsedUp budget before after = (bytes : ℕ) × (budget ≡ Some bytes) × (before.asked + bytes < after.asked + 4096)

-- the answer given is the whole one; or, if its refusal is for lack of budget, the budget is
-- exhausted, and the refusal names the read that did not fit
abbrev pub WholeOrUsedUp : Option ℕ → CountedState → CountedState → Result ℕ RunFault → (whole answer : Answer) → Type 0
WholeOrUsedUp budget before after (Ok status) whole answer = answer ≡ whole
WholeOrUsedUp budget before after (Err (Refused refusal)) whole answer =
    (IsBudgetRefusal refusal → IsUsedUp budget before after × (refusal.at ≡ after.stopped)) × ((IsBudgetRefusal refusal → ⊥) → answer ≡ whole)
WholeOrUsedUp budget before after (Err (Source fault at)) whole answer = ⊤
WholeOrUsedUp budget before after (Err (Out fault)) whole answer = ⊤

-- THE ANSWER: an allowed one was written, and this holds of it
pub record Answers (old new : OutState) (result : Result ℕ RunFault) (Permits Holds : Answer → Type 0) : Type 0 where
  pub answer : Answer
  pub permitted : Permits answer
  pub wrote : WroteAnswer old new result answer
  pub holds : Holds answer
