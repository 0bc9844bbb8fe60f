-- The hardening traits of symbols, one after another.
use Rattle.std.specs.Prelude.{ℕ, zero, suc, ◌≡◌, ◌+◌, Bool, List, Result, Ok, Err}
use Rattle.elf_model.specs.Prelude.{IsBudgetRefusal, SYMBOL_SIZE, SymbolTraitFlags, TRAIT_NAME_BYTES, marked_by, marked_with_symbol, shown, st_name}
use Rattle.elf_model.specs.declared.causes.Refusal.{Refusal}
use Rattle.elf_table.specs.declared.fault.Fault.{Fault}
use Rattle.elf_table.specs.declared.fault.Fault.TheVariants.{Refused, Source}
use Rattle.elf_loader.specs.declared.symbol_traits.SymbolTraits.{SymbolTraits}

-- the traits in the terms of the model
abbrev pub symbol_traits_of : SymbolTraits → SymbolTraitFlags
symbol_traits_of marks = record { canary = marks.canary; fortify = marks.fortify }

-- A SYMBOL ADDS NONE, whatever its name, by whether it is undefined
abbrev pub AddsNone : SymbolTraitFlags → (undefined : Bool) → Type 0
AddsNone marks undefined = (name : List ℕ) → marked_by marks name undefined ≡ marks

-- traits are those of the definitions, and so is a refusal, unless that is `Budget`
abbrev pub ReturnsMarks : Result SymbolTraitFlags Refusal → Result SymbolTraits Fault → Type 0
ReturnsMarks told (Ok marks) = told ≡ Ok (symbol_traits_of marks)
ReturnsMarks told (Err (Refused refusal)) = (IsBudgetRefusal refusal → ⊥) → told ≡ Err refusal
ReturnsMarks told (Err (Source fault at)) = Unit {0}

-- with the symbol at an offset, in addition to those before; a fault of its name is at the symbol
abbrev pub marks_with : List ℕ → (at : ℕ) → (strings : List ℕ) → SymbolTraitFlags → Result SymbolTraitFlags Refusal
marks_with file at strings marks = elim (shown strings (st_name file at) TRAIT_NAME_BYTES) [
  | Err cause ↦ Err (record { at = at; cause = cause })
  | Ok name ↦ Ok (marked_with_symbol file at marks name)
]

-- the traits of a number of symbols at an offset, with those before
unfoldable pub marks_in : List ℕ → (at : ℕ) → (strings : List ℕ) → SymbolTraitFlags → ℕ → Result SymbolTraitFlags Refusal
marks_in file at strings marks zero = Ok marks
marks_in file at strings marks (suc count) = elim (marks_with file at strings marks) [
  | Err refusal ↦ Err refusal
  | Ok more ↦ marks_in file (at + SYMBOL_SIZE) strings more count
]
