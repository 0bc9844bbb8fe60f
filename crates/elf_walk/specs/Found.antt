-- The traits that are found for one file among many, within its limits.
use Rattle.std.specs.Prelude.{ℕ, ◌≡◌, ◌<◌, ◌⊎◌, ⊤, nat_lt, if◌then◌else◌, List, length, Option, None, Some, Result, Ok, Err}
use Rattle.elf_model.specs.Prelude.{ELF_MAGIC_SIZE, FILE_HEADER_SIZE, IsBudgetRefusal, state_of, traits_ceiling, traits_cost, traits_of}
use Rattle.elf_model.specs.declared.states.FileStatus.{FileStatus}
use Rattle.elf_model.specs.declared.traits.Hardening.{Hardening}
use Rattle.elf_model.specs.declared.causes.Refusal.{Refusal}
use Rattle.elf_model.specs.declared.states.FileStatus.TheVariants as state

-- the traits of a file, or the state of one that is refused
abbrev pub traits_found : Option ℕ → List ℕ → Result Hardening Refusal → Result Hardening FileStatus
traits_found budget file (Ok traits) = Ok traits
traits_found budget file (Err refusal) = Err (state_of budget file (Some refusal))

-- a refusal for lack of budget, at an offset of the file
abbrev pub LacksBudget : (size : ℕ) → Result Hardening FileStatus → Type 0
LacksBudget size (Err (state.Refused refusal)) = IsBudgetRefusal refusal × (refusal.at < size)
LacksBudget size _ = ⊥

-- the same within a budget: or, if the traits cost more, a refusal for lack of it
abbrev pub IsFoundWithin : Option ℕ → (headers : ℕ) → List ℕ → Result Hardening FileStatus → Type 0
IsFoundWithin None headers file found = found ≡ traits_found None file (traits_of file headers)
IsFoundWithin (Some bytes) headers file found =
    (found ≡ traits_found (Some bytes) file (traits_of file headers)) ⊎ ((bytes < traits_cost file headers) × LacksBudget (length file) found)

-- WHAT IS FOUND for a file: that, unless a read failed
abbrev pub FindsWithin : Option ℕ → (headers : ℕ) → List ℕ → Result Hardening FileStatus → Type 0
FindsWithin budget headers file (Err state.Unread) = ⊤
FindsWithin budget headers file found = IsFoundWithin budget headers file found

-- what a file's traits may request: of one that is too short for a file header its first bytes
abbrev pub file_traits_cost : List ℕ → (headers : ℕ) → ℕ
file_traits_cost file headers = if nat_lt (length file) FILE_HEADER_SIZE then ELF_MAGIC_SIZE else traits_cost file headers

-- the same for any source
abbrev pub file_traits_ceiling : (size headers : ℕ) → ℕ
file_traits_ceiling size headers = if nat_lt size FILE_HEADER_SIZE then ELF_MAGIC_SIZE else traits_ceiling size headers
