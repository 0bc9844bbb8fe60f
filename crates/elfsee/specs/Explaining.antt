-- What is printed after a refusal of a section, and what that reads.
use Rattle.std.specs.Prelude.{ℕ, ◌+◌, ◌≤◌, max, Bool, true, false, List, [], Option, Result, Ok, Err, IfSome}
use Rattle.elf_model.specs.Prelude.{Layout, is_overflow, why_refused}
use Rattle.elf_model.specs.declared.causes.Cause.{Cause}
use Rattle.elf_model.specs.declared.causes.Refusal.{Refusal}
use Rattle.elf_reloc.specs.Explained.{explain_bytes}
use Rattle.elf_reloc.specs.Overflowed.{overflow_bytes}
use Rattle.elf_source.specs.Prelude.{CountedState, OutState, SinkTakes, SinkTakesPrefix}
use Rattle.elf_table.specs.declared.run_fault.RunFault.{RunFault}
use Rattle.elf_requests.specs.declared.requests.Task.TheVariants.{Apply, Place}
use Rattle.elf_requests.specs.declared.requests.Task.{Task}

-- whether a task asks what would help
unfoldable pub asks_why : Task → Bool
asks_why (Apply section layout explain) = explain
asks_why (Place section addresses explain) = explain
asks_why _ = false

-- why a section was refused in the layout of a task: the line of what would help, or of the value
-- that does not fit, if there is one
unfoldable pub reason_in : List ℕ → Task → Refusal → List ℕ
reason_in file (Apply section layout explain) refusal = why_refused file section layout.now refusal
reason_in file (Place section addresses explain) refusal = why_refused file section addresses.now refusal
reason_in file _ refusal = []

-- how many bytes it requests at most, by the cause
abbrev pub reason_bytes : (slots : ℕ) → Layout → Cause → ℕ
reason_bytes slots layout cause = elim (is_overflow cause) [ true ↦ overflow_bytes slots layout | false ↦ explain_bytes slots ]

unfoldable pub reason_bytes_in : (slots : ℕ) → Task → Refusal → ℕ
reason_bytes_in slots (Apply section layout explain) refusal = reason_bytes slots layout.now refusal.cause
reason_bytes_in slots (Place section addresses explain) refusal = reason_bytes slots addresses.now refusal.cause
reason_bytes_in slots _ refusal = 0

-- WHAT IS REQUESTED besides what was requested before: at most n bytes, and within what is left of
-- the budget for all of it
pub record AsksRest (budget : Option ℕ) (old new : CountedState) (n : ℕ) : Type 0 where
  pub most : new.asked ≤ old.asked + n
  pub within : IfSome budget (λ bytes. new.asked ≤ max old.asked bytes)

-- a text was written, or a prefix of it if the call stopped
abbrev pub WroteUpTo : {X : Type 0} → OutState → OutState → Result X RunFault → List ℕ → Type 0
WroteUpTo old new (Ok x) text = SinkTakes old new text
WroteUpTo old new (Err stop) text = SinkTakesPrefix old new text
