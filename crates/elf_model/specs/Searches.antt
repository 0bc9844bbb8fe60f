-- The result of a search for the NUL that ends a name, and what is kept of the name.
use Rattle.std.specs.Prelude.{ℕ, ◌≡◌, Bool, true, false, List, take, None, Some}
use Rattle.elf_model.specs.Names.{nul_in}

-- these bytes have a NUL, or none: those before it are kept, or all, up to the cap
abbrev pub NulFound : List ℕ → ℕ → Bool → List ℕ → Type 0
NulFound bytes cap true kept = (place : ℕ) × (nul_in bytes ≡ Some place) × (kept ≡ take cap (take place bytes))
NulFound bytes cap false kept = (nul_in bytes ≡ None) × (kept ≡ take cap bytes)
