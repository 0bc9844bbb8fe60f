-- Results of reads that are those of a definition.
use Rattle.std.specs.Prelude.{◌≡◌, Result, Ok, Err}
use Rattle.elf_model.specs.Prelude.{IsBudgetRefusal}
use Rattle.elf_model.specs.declared.causes.Refusal.{Refusal}
use Rattle.elf_table.specs.declared.fault.Fault.{Fault}
use Rattle.elf_table.specs.declared.fault.Fault.TheVariants.{Refused, Source}

-- the refusal is the definition's, except one for lack of budget
abbrev pub RefusesAs : {X : Type 0} → Result X Refusal → Fault → Type 0
RefusesAs told (Refused refusal) = (IsBudgetRefusal refusal → ⊥) → told ≡ Err refusal
RefusesAs told (Source fault at) = Unit {0}

-- the result is the definition's; or the refusal, except one for lack of budget
abbrev pub ReturnsAs : {X : Type 0} → Result X Refusal → Result X Fault → Type 0
ReturnsAs told (Ok found) = told ≡ Ok found
ReturnsAs told (Err fault) = RefusesAs told fault
