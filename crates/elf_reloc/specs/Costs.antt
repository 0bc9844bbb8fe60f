-- The result of a lookup by name, and its cost.
use Rattle.std.specs.Prelude.{ℕ, ◌≡◌, List, Option, Result, Ok, Err, IfErr}
use Rattle.elf_model.specs.Prelude.{IsBudgetRefusal, address_named}
use Rattle.elf_model.specs.declared.causes.Cause.{Cause}
use Rattle.elf_model.specs.declared.causes.Refusal.{Refusal}
use Rattle.elf_record.specs.Sym.{IsSym}
use Rattle.elf_source.specs.Source.{CountedState}
use Rattle.elf_table.specs.Prelude.{CallDid, IsOfCheck, fault_of_result, strings_in}
use Rattle.elf_table.specs.declared.fault.Fault.{Fault}
use Rattle.elf_table.specs.declared.fault.Fault.TheVariants.{Refused, Source}
use Rattle.elf_table.specs.declared.linked_symbol.SymbolEntry.{SymbolEntry}

-- a result, or a refusal at an offset for the cause, unless it is `Budget`
abbrev ValueOrCause : {X : Type 0} → ℕ → Result X Fault → Result X Cause → Type 0
ValueOrCause at (Ok x) answer = answer ≡ Ok x
ValueOrCause at (Err (Refused refusal)) answer = (IsBudgetRefusal refusal → ⊥) → (refusal.at ≡ at) × (answer ≡ Err refusal.cause)
ValueOrCause at (Err (Source fault offset)) answer = Unit {0}

-- a result, or the refusal, unless it is `Budget`
abbrev pub ValueOrRefusal : {X : Type 0} → Result X Fault → Result X Refusal → Type 0
ValueOrRefusal (Ok x) answer = answer ≡ Ok x
ValueOrRefusal (Err (Refused refusal)) answer = (IsBudgetRefusal refusal → ⊥) → answer ≡ Err refusal
ValueOrRefusal (Err (Source fault at)) answer = Unit {0}

-- the same for a call that reads nothing: it refuses by a check alone
pub record AnswersUnread {X : Type 0} (result : Result X Fault) (answer : Result X Refusal) : Type 0 where
  pub value : ValueOrRefusal result answer
  pub refusal : IfErr result IsOfCheck

-- the effect of a call that searches a symbol's name among items: it requests at most n bytes, and
-- returns the address of the first item of that name, if there is one; a refusal points to the
-- symbol
abbrev pub FindsAddress : CountedState → CountedState → SymbolEntry → Result (Option ℕ) Fault → ℕ → List (List ℕ × ℕ) → Type 0
FindsAddress old new symbol result n items =
    CallDid old new (fault_of_result result) n (λ file. ValueOrCause symbol.at result (address_named (strings_in file symbol.names) symbol.fields.st_name items))

-- the effect of a call that computes a value of a symbol: it requests at most n bytes, and returns
-- the value that the file and the strings of its names have, or its refusal
abbrev pub GivesValue : CountedState → CountedState → SymbolEntry → Result ℕ Fault → ℕ → (List ℕ → List ℕ → Result ℕ Refusal) → Type 0
GivesValue old new symbol result n value =
    CallDid old new (fault_of_result result) n (λ file. IsSym file symbol.at symbol.fields → ValueOrRefusal result (value file (strings_in file symbol.names)))
