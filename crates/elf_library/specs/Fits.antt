-- Whether a file ends a search for a library.
use Rattle.std.specs.Prelude.{ℕ, ◌≡◌, ◌⊎◌, ◌==◌, ◌||◌, not, List, [], ◌∷◌, Option, None, Result, Ok, Err}
use Rattle.elf_model.specs.Bytes.{field}
use Rattle.elf_model.specs.Checks.{Check, refuse}
use Rattle.elf_model.specs.Prelude.{Accepted, IsBudgetRefusal, LibraryFile, RefusedAt, Skipped, e_type}
use Rattle.elf_model.specs.TraitNumbers.{is_linked_type}
use Rattle.elf_model.specs.declared.causes.Cause.TheVariants.{BadVersion, Short, Unsupported}
use Rattle.elf_library.specs.declared.candidates.SearchEnd.{SearchEnd}
use Rattle.elf_library.specs.declared.candidates.SearchEnd.TheVariants as stop
use Rattle.elf_library.specs.declared.library_files.LibraryFit.{LibraryFit}
use Rattle.elf_library.specs.declared.library_files.LibraryFit.TheVariants as fit
use Rattle.elf_table.specs.declared.fault.Fault.{Fault}
use Rattle.elf_table.specs.declared.fault.Fault.TheVariants.{Refused, Source}

-- the same as a value of the definitions
abbrev pub fitted : LibraryFit → LibraryFile
fitted fit.Skipped = Skipped
fitted (fit.Refused refusal) = RefusedAt refusal
fitted fit.Accepted = Accepted

-- the last checks of a header: its version and its type
abbrev pub type_checks : List ℕ → List Check
type_checks file =
    refuse (not (field file 20 4 == 1)) 20 BadVersion
    ∷ refuse (not (is_linked_type (e_type file))) 16 Unsupported
    ∷ []

-- it is what is given; or a read failed, or the budget is used up
abbrev pub ReturnsLibrary : LibraryFile → Result LibraryFit Fault → Type 0
ReturnsLibrary told (Ok found) = fitted found ≡ told
ReturnsLibrary told (Err (Refused refusal)) = IsBudgetRefusal refusal
ReturnsLibrary told (Err (Source fault at)) = Unit {0}

-- the same, with so much left of a budget: without one it is not used up
abbrev pub ReturnsLibraryWithin : LibraryFile → Option ℕ → Result LibraryFit Fault → Type 0
ReturnsLibraryWithin told left (Ok found) = fitted found ≡ told
ReturnsLibraryWithin told left (Err (Refused refusal)) = left ≡ None → ⊥
ReturnsLibraryWithin told left (Err (Source fault at)) = Unit {0}

-- the result is that, or that its bytes cannot be read; or it is accepted, if the budget is too
-- small to find that out
abbrev pub ReturnsLibraryFit : LibraryFile → Option ℕ → LibraryFit → Type 0
ReturnsLibraryFit told left found =
    (fitted found ≡ told) ⊎ ((found ≡ fit.Refused (record { at = 0; cause = Short })) ⊎ ((found ≡ fit.Accepted) × (left ≡ None → ⊥)))

-- the answer of a search for one that is not accepted: it goes on, or ends
abbrev pub not_accepted : {X : Type 0} → LibraryFit → Result (Option X) SearchEnd
not_accepted (fit.Refused refusal) = Err (stop.Refused refusal)
not_accepted fit.Skipped = Ok None
not_accepted fit.Accepted = Ok None
