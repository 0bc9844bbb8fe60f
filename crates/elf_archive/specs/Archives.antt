-- The result of the checks before the members of an archive, and of their data.
use Rattle.std.specs.Prelude.{ℕ, ◌≡◌, List, None, Some, Result, Ok, Err}
use Rattle.elf_model.specs.Prelude.{IsBudgetRefusal, archive_checks, first_refusal}
use Rattle.elf_table.specs.declared.fault.Fault.{Fault}
use Rattle.elf_table.specs.declared.fault.Fault.TheVariants.{Refused, Source}

-- a read of the magic string returns that the file may be an archive, or the first check that fails
abbrev pub MagicRead : {X : Type 0} → List ℕ → Result X Fault → Type 0
MagicRead file (Ok x) = first_refusal (archive_checks file) ≡ None
MagicRead file (Err (Refused refusal)) = (IsBudgetRefusal refusal → ⊥) → first_refusal (archive_checks file) ≡ Some refusal
MagicRead file (Err (Source fault at)) = Unit {0}
