-- The budget of a link: how many bytes are requested of all its files.
use Rattle.std.specs.Prelude.{ℕ, zero, suc, ◌≡◌, ◌+◌, ◌^◌, ◌<◌, Option, None, Some, Result, Ok, Err, option_map}
use Rattle.elf_source.specs.Source.{CountedState}
use Rattle.elf_resolve.specs.declared.read_budget.ReadBudget.{ReadBudget}

-- of so many bytes in all, what is left and what was requested are the whole
pub record IsSpentOf (most : ℕ) (budget : ReadBudget) : Type 0 where
  pub rest : ℕ
  pub left : budget.left ≡ Some rest
  pub whole : rest + budget.asked ≡ most

-- THE BUDGET IS SPENT, for any sources: what is left decreases by exactly what is requested of the
-- files, so all of them together never exceed it; and without a limit none is set
pub record KeepsToBudget (old new : ReadBudget) : Type 0 where
  pub spends : (most : ℕ) → most < 2 ^ 128 → IsSpentOf most old → IsSpentOf most new
  pub free : old.left ≡ None → new.left ≡ None

-- A FILE IS OPENED with all that is left, and while it is open nothing else may be read
abbrev pub OpensWithin : {E : Type 0} → (old new : ReadBudget) → Result CountedState E → Type 0
OpensWithin old new (Ok src) = (src.most ≡ old.left) × (src.asked ≡ 0) × (new ≡ record old { left = option_map (λ bytes. 0) old.left })
OpensWithin old new (Err fault) = new ≡ old

-- a limit as a number
abbrev pub number_of_limit : Option ℕ → ℕ
number_of_limit None = zero
number_of_limit (Some most) = suc most
