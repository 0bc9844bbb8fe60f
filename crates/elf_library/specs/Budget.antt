-- What is requested from files in a search for objects, and what that leaves of a budget that is
-- for all of them.
use Rattle.std.specs.Prelude.{ℕ, ◌+◌, ◌≤◌, Option, None, Some, Result, Ok, Err}
use Rattle.elf_source.specs.Source.{CountedState}
use Rattle.elf_library.specs.Looks.{SpendsBudget}
use Rattle.elf_library.specs.Opens.{SpendsBudgetAtLeast}

-- how many bytes were requested from files that are closed
pub record ClosedFilesState : Type 0 where
  pub asked : ℕ

-- WHAT A CALL REQUESTED FROM A FILE, for any source: what is left of the budget decreases by it
pub record AsksFile (old new : CountedState) (left left_new : Option ℕ) : Type 0 where
  pub grows : old.asked ≤ new.asked
  pub pays : SpendsBudget left left_new old.asked new.asked

-- how many bytes were requested from a file that is found; none is found, and a search that fails
-- gives none
abbrev pub asked_of_found : {E : Type 0} → Result (Option CountedState) E → ℕ
asked_of_found (Ok (Some file)) = file.asked
asked_of_found (Ok None) = 0
asked_of_found (Err fault) = 0

-- WHAT A SEARCH FOR A FILE REQUESTED, for any sources: what is left of the budget decreases by at
-- least what was requested from the files that are skipped and closed, and from the one that is
-- found
pub record AsksFound {E : Type 0} (left left_new : Option ℕ) (closed closed_new : ℕ) (result : Result (Option CountedState) E) : Type 0 where
  pub closes : closed ≤ closed_new
  pub pays : SpendsBudgetAtLeast left left_new closed (closed_new + asked_of_found result)

-- WHAT WAS REQUESTED FROM FILES THAT ARE CLOSED, for any sources: what is left of the budget
-- decreases by at least that, except n bytes that were read before
pub record AsksClosed (n : ℕ) (left left_new : Option ℕ) (closed closed_new : ℕ) : Type 0 where
  pub closes : closed ≤ closed_new
  pub pays : SpendsBudgetAtLeast left left_new (closed + n) closed_new
