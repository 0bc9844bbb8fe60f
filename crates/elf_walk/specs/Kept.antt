-- The names of a directory that are kept, a pass at a time.
use Rattle.std.specs.Prelude.{ℕ, ◌≡◌, ◌≤◌, Bool, true, false, not, ◌&&◌, ◌||◌, List, [], ◌∷◌, ◌++◌, length, codes, bytes_eq, IsUtf8}
use Rattle.std.specs.Ordering.{is_gt, is_lt}
use Rattle.elf_walk.specs.Held.{IsEnough, IsWithinRoom}
use Rattle.elf_walk.specs.Order.{order}
use Rattle.elf_walk.specs.Passes.{in_order, names_following}

-- the maximum number of bytes of a name in a directory
abbrev pub ENTRY_NAME_BYTES : ℕ
ENTRY_NAME_BYTES = 255

-- what is kept of a directory: its first names after another one, sorted; the same as they are
-- stored; that other one; whether the directory has more of them, and the last that is kept then
pub record KeptNames : Type 0 where
  pub names : List (List ℕ)
  pub held : List (List ℕ)
  pub after : List ℕ
  pub limit : List ℕ
  pub more : Bool

-- the name is `.` or `..`
abbrev pub is_dot_entry : List ℕ → Bool
is_dot_entry name = bytes_eq name (codes ".") || bytes_eq name (codes "..")

-- a name that can be represented
abbrev pub IsNameable : List ℕ → Type 0
IsNameable name = IsUtf8 name × (length name ≤ ENTRY_NAME_BYTES)

-- some names are a prefix of others, and do not have all of them
pub record IsCutFront (limit : List ℕ) (kept all : List (List ℕ)) : Type 0 where
  pub front : List (List ℕ)
  pub next : List ℕ
  pub rest : List (List ℕ)
  pub kept_is : kept ≡ front ++ limit ∷ []
  pub all_is : all ≡ front ++ limit ∷ next ∷ rest

-- some names are all of others, or if there are more a prefix of them that ends with the limit
abbrev pub IsFront : List ℕ → Bool → List (List ℕ) → List (List ℕ) → Type 0
IsFront limit false kept all = kept ≡ all
IsFront limit true kept all = IsCutFront limit kept all

-- WHAT IS KEPT of the names that were put: the first of those after `after`, sorted by their bytes,
-- without duplicates
abbrev pub KeepsFirstNames : List (List ℕ) → KeptNames → Type 0
KeepsFirstNames names kept = IsFront kept.limit kept.more kept.names (in_order (names_following kept.after names))

-- a name belongs to those that are kept
abbrev pub wants : List ℕ → KeptNames → Bool
wants name kept = is_gt (order name kept.after) && (not kept.more || is_lt (order name kept.limit))

-- HOW MUCH IS HELD of a directory: no more than there is memory for, and if the directory has more
-- names, as many as are kept
pub record HoldsWithin (kept : KeptNames) : Type 0 where
  pub room : IsWithinRoom kept.held
  pub enough : kept.more ≡ true → IsEnough kept.names
