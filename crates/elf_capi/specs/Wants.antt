-- What a refusal for lack of budget says.
use Rattle.std.specs.Prelude.{ℕ, ◌≡◌, ◌<◌, Option, Some}
use Rattle.elf_model.specs.declared.causes.Refusal.{Refusal}

-- a refusal for lack of budget: the budget is less than what the call costs, and the offset lies in
-- a file of this size
abbrev pub IsWanting : Option ℕ → ℕ → ℕ → Refusal → Type 0
IsWanting budget cost size refusal = (bytes : ℕ) × (budget ≡ Some bytes) × (bytes < cost) × (refusal.at < size)
