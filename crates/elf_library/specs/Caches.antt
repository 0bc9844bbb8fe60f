-- What is requested from a loader's cache.
use Rattle.std.specs.Prelude.{ℕ, ◌≡◌, ◌-◌, ◌≤◌, Option}
use Rattle.elf_source.specs.Source.{CountedState, counted}
use Rattle.elf_library.specs.Looks.{SpendsBudget}

-- WHAT WAS REQUESTED FROM A CACHE, for any source: what is left of the budget decreases by it, and
-- it is added to what was requested from files that are closed
pub record PaysCache (old new : CountedState) (left left_new : Option ℕ) (closed closed_new : ℕ) : Type 0 where
  pub grows : old.asked ≤ new.asked
  pub pays : SpendsBudget left left_new old.asked new.asked
  pub closes : closed_new ≡ counted closed (new.asked - old.asked)
