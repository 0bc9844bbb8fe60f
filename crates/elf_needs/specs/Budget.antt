-- What is requested from the files of objects, and what that leaves of a budget that is for all of
-- them.
use Rattle.std.specs.Prelude.{ℕ, ◌+◌, ◌≤◌, List, Option}
use Rattle.elf_library.specs.Prelude.{LookupObjectState, SpendsBudgetAtLeast}
use Rattle.elf_needs.specs.Binds.{asked_of_all}

-- WHAT WAS REQUESTED FROM THE FILES OF OBJECTS, for any sources: what is left of the budget
-- decreases by at least what was requested from all files closed since, and from all that are kept,
-- except n bytes that were read from one of these before
pub record AsksFiles (n : ℕ) (old new : List LookupObjectState) (left left_new : Option ℕ) (closed closed_new : ℕ) : Type 0 where
  pub closes : closed ≤ closed_new
  pub grows : asked_of_all old ≤ asked_of_all new
  pub pays : SpendsBudgetAtLeast left left_new (closed + n + asked_of_all old) (closed_new + asked_of_all new)
