-- The source of a file in memory, within a read budget.
use Rattle.std.specs.Prelude.{ℕ, ◌≡◌, false, List, Option, Some}
use Rattle.elf_source.specs.Source.{CountedState, honest}

-- the source of a file in memory, from which nothing was requested, and of which no more may be
-- than the budget has, if there is one
pub record IsFileWithin (file : List ℕ) (budget : Option ℕ) (src : CountedState) : Type 0 where
  pub known : src.seen.file ≡ Some file
  pub source : src.source ≡ honest file
  pub shows : src.hides ≡ false
  pub unasked : src.asked ≡ 0
  pub limit : src.most ≡ budget
