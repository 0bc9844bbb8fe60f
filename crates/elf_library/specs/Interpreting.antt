-- The interpreter that a file names, as it is read.
use Rattle.std.specs.Prelude.{ℕ, ◌≡◌, ◌+◌, ◌-◌, ◌==◌, ◌&&◌, ◌||◌, nat_lt, not, Bool, true, false, List, [], ◌∷◌, Option, None, Some, Result, Ok, Err}
use Rattle.elf_model.specs.Prelude.{IsBudgetRefusal, e_type, field, first_refusal, is_outside, refuse}
use Rattle.elf_model.specs.Interpreters.{INTERPRETER_BYTES}
use Rattle.elf_model.specs.TraitNumbers.{is_linked_type}
use Rattle.elf_model.specs.declared.causes.Cause.TheVariants.{NameUnended, TableOutside}
use Rattle.elf_model.specs.declared.causes.Refusal.{Refusal}
use Rattle.elf_table.specs.Prelude.{StringTableRange, checked, strings}
use Rattle.elf_table.specs.declared.fault.Fault.{Fault}
use Rattle.elf_table.specs.declared.fault.Fault.TheVariants.{Refused, Source}
use Rattle.elf_library.specs.Reading.{machine_by}
use Rattle.elf_hash.specs.Prelude.{RefusesAs}

-- a path is named and read, or none is; or it is refused, except for lack of budget
abbrev pub ReturnsInterpreter : Result (Option (List ℕ)) Refusal → (path : List ℕ) → Result Bool Fault → Type 0
ReturnsInterpreter told path (Ok true) = told ≡ Ok (Some path)
ReturnsInterpreter told path (Ok false) = told ≡ Ok None
ReturnsInterpreter told path (Err fault) = RefusesAs told fault

-- nothing is refused, or it is, except for lack of budget
abbrev pub ReturnsRefusal : Option Refusal → Result (Unit {0}) Fault → Type 0
ReturnsRefusal told (Ok passed) = told ≡ None
ReturnsRefusal told (Err (Refused refusal)) = (IsBudgetRefusal refusal → ⊥) → told ≡ Some refusal
ReturnsRefusal told (Err (Source fault at)) = Unit {0}

-- where the bytes of a path are, which are within a file of a size and as many as a path can have;
-- the refusals point to a place
abbrev pub path_range : (file_size offset size place : ℕ) → Result StringTableRange Fault
path_range file_size offset size place =
    checked
    (refuse (is_outside file_size offset size) place TableOutside
    ∷ refuse (nat_lt size 2 || nat_lt INTERPRETER_BYTES size) place NameUnended
    ∷ [])
    (strings offset size)

-- the last of these bytes is no NUL
abbrev pub end_refusal : List ℕ → StringTableRange → (place : ℕ) → Option Refusal
end_refusal file path place = first_refusal (refuse (not (field file (path.at + path.size - 1) 1 == 0)) place NameUnended ∷ [])

-- a file with these first bytes can be the interpreter of a program of a machine
abbrev pub interprets : (machine : ℕ) → List ℕ → Bool
interprets machine front = elim (machine_by front) [
  | None ↦ false
  | Some found ↦ found == machine && is_linked_type (e_type front)
]

-- a file can be it or not; or a read failed, or the budget is used up
abbrev pub ReturnsIsInterpreter : Bool → Result Bool Fault → Type 0
ReturnsIsInterpreter told (Ok is) = is ≡ told
ReturnsIsInterpreter told (Err (Refused refusal)) = IsBudgetRefusal refusal
ReturnsIsInterpreter told (Err (Source fault at)) = Unit {0}
