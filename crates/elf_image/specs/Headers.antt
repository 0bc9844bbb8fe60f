-- The checks of headers, as the code returns their refusals.
use Rattle.std.specs.Prelude.{ℕ, Option, None, Some}
use Rattle.elf_model.specs.declared.causes.Cause.{Cause}
use Rattle.elf_model.specs.declared.causes.Refusal.{Refusal}
use Rattle.elf_table.specs.declared.fault.Fault.{Fault}
use Rattle.elf_table.specs.declared.fault.Fault.TheVariants as fault

-- the refusal for a cause at an offset, if there is a cause
abbrev pub refusal_for : (at : ℕ) → Option Cause → Option Refusal
refusal_for at None = None
refusal_for at (Some cause) = Some (record { at = at; cause = cause })

-- a fault that is a refusal
abbrev pub IsRefusedFault : Fault → Type 0
IsRefusedFault (fault.Refused refusal) = Unit {0}
IsRefusedFault (fault.Source reason at) = ⊥
