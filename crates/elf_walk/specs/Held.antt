-- Names that are stored one after the other.
use Rattle.std.specs.Prelude.{ℕ, suc, zero, ◌≡◌, ◌≤◌, ◌<◌, ◌+◌, ◌⊎◌, Bool, true, false, List, length, slice_index_or, sum_by, bytes_eq, []}

-- the name at an index equals the one before it
abbrev pub repeats : List (List ℕ) → ℕ → Bool
repeats names zero = false
repeats names (suc before) = bytes_eq (slice_index_or names (suc before) []) (slice_index_or names before [])

-- the total length of names in bytes
abbrev pub bytes_held : List (List ℕ) → ℕ
bytes_held names = sum_by (λ name. length name) names

-- how many names, and how many bytes of them, are kept if there are more
abbrev pub KEPT_COUNT : ℕ
KEPT_COUNT = 20480

abbrev pub KEPT_SIZE : ℕ
KEPT_SIZE = 589824

-- as many names as are kept if there are more, and fewer than these
abbrev pub IsEnough : List (List ℕ) → Type 0
IsEnough names = (KEPT_COUNT ≤ length names) ⊎ (KEPT_SIZE ≤ bytes_held names)

abbrev pub IsSmallDirectory : List (List ℕ) → Type 0
IsSmallDirectory names = (length names < KEPT_COUNT) × (bytes_held names < KEPT_SIZE)

-- no more names than are kept, of which the last may be longer than what is left
abbrev pub IsWithinKept : List (List ℕ) → Type 0
IsWithinKept names = (length names ≤ KEPT_COUNT) × (bytes_held names < KEPT_SIZE + 255)

-- names that there is memory for, and those that there is memory for with one name more
abbrev pub IsWithinRoom : List (List ℕ) → Type 0
IsWithinRoom names = (length names ≤ 32768) × (bytes_held names ≤ 720896)

abbrev pub LeavesRoom : List (List ℕ) → Type 0
LeavesRoom names = (length names < 32768) × (bytes_held names + 255 ≤ 720896)

-- WHAT SETTLING LEAVES of names: no more than are kept; and if there are more of them, as many as
-- are kept
pub record IsSettled (had has : Bool) (old new : List (List ℕ)) : Type 0 where
  pub within : IsWithinKept new
  pub enough : (had ≡ true → IsEnough old) → has ≡ true → IsEnough new
