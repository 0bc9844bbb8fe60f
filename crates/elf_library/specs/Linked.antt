-- Which of many files have needs that are listed: those that a loader links.
use Rattle.std.specs.Prelude.{ℕ, ◌≡◌, ◌&&◌, ◌++◌, is_some, Bool, List, None, Some, Result, Ok, Err}
use Rattle.elf_model.specs.Prelude.{IsBudgetRefusal, dynamic_segment_index, e_type, first_refusal, header_checks, is_linked_type, load_checks, without_sections}
use Rattle.elf_model.specs.declared.causes.Refusal.{Refusal}
use Rattle.elf_table.specs.declared.fault.Fault.{Fault}
use Rattle.elf_table.specs.declared.fault.Fault.TheVariants.{Refused, Source}

-- it links a file: its type is EXEC or DYN, and it has a segment of dynamic entries
abbrev pub is_linked : List ℕ → Bool
is_linked file = is_linked_type (e_type file) && is_some (dynamic_segment_index file)

-- the same, or the refusal of its headers, with this many of them allowed
unfoldable pub linked_shown : List ℕ → (headers : ℕ) → Result Bool Refusal
linked_shown file headers = elim (first_refusal (header_checks file ++ load_checks file headers)) [
  | Some refusal ↦ Err refusal
  | None ↦ Ok (is_linked file)
]

-- for any section headers
abbrev pub linked_file : List ℕ → (headers : ℕ) → Result Bool Refusal
linked_file file headers = linked_shown (without_sections file) headers

-- that is the result, or a refusal for lack of budget, or a fault of a read
abbrev pub ReturnsLinked : Result Bool Refusal → Result Bool Fault → Type 0
ReturnsLinked told (Ok linked) = told ≡ Ok linked
ReturnsLinked told (Err (Refused refusal)) = (IsBudgetRefusal refusal → ⊥) → told ≡ Err refusal
ReturnsLinked told (Err (Source fault at)) = Unit {0}
