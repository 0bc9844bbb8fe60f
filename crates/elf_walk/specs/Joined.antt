-- A name after the path of its directory.
use Rattle.std.specs.Prelude.{ℕ, ◌-◌, ◌==◌, ◌&&◌, not, Bool, if◌then◌else◌, List, ◌∷◌, ◌++◌, length, slice_index}

-- `/`
abbrev pub SLASH : ℕ
SLASH = 47

-- a slash is to follow a directory's path
abbrev pub needs_slash : List ℕ → Bool
needs_slash path = not (length path == 0) && not (slice_index path (length path - 1) == SLASH)

-- the path of a name in a directory
abbrev pub joined_path : List ℕ → List ℕ → List ℕ
joined_path path name = if needs_slash path then path ++ SLASH ∷ name else path ++ name
