-- One pass over the names of a directory.
use Rattle.std.specs.Prelude.{ℕ, suc, ◌≡◌, true, nat_lt, List, take, length, slice_index_or}
use Rattle.elf_walk.specs.Kept.{KeptNames, KeepsFirstNames}
use Rattle.elf_walk.specs.Passes.{in_order, names_following}

-- THE PASS over the names of a directory: it keeps the first of those after its starting name, it
-- knows whether there are more, and then it keeps at least one, of which the last is the limit
pub record IsPass (names : List (List ℕ)) (kept : KeptNames) : Type 0 where
  pub first : kept.names ≡ take (length kept.names) (in_order (names_following kept.after names))
  pub more : kept.more ≡ nat_lt (length kept.names) (length (in_order (names_following kept.after names)))
  pub last : kept.more ≡ true → (most : ℕ) × (length kept.names ≡ suc most) × (kept.limit ≡ slice_index_or (in_order (names_following kept.after names)) most kept.after)

-- what is kept of the names that were put is a pass over them
abbrev pub PassKeeps : Type 0
PassKeeps = (names : List (List ℕ)) (kept : KeptNames) → KeepsFirstNames names kept → IsPass names kept
