-- Paths within another root, as a process resolves them whose root it is (path_resolution(7)): what
-- is looked at never leaves the root.
use Rattle.std.specs.Prelude.{ℕ, ◌≡◌, ◌≢◌, ◌<◌, List, [], ◌∷◌, ◌++◌, codes, length, slice_index}
use Rattle.elf_needs.specs.Searching.{PATH_SLASH}

-- no byte of a text separates names
abbrev pub HasNoSlash : List ℕ → Type 0
HasNoSlash text = (k : ℕ) → k < length text → slice_index text k ≢ PATH_SLASH

-- A NAME in a directory: it is not empty and has no slash, and is neither the directory itself nor
-- the one above it
pub record IsEntryName (name : List ℕ) : Type 0 where
  pub some : 0 < length name
  pub plain : HasNoSlash name
  pub not_itself : name ≢ codes "."
  pub not_above : name ≢ codes ".."

abbrev pub AreEntryNames : List (List ℕ) → Type 0
AreEntryNames [] = Unit {0}
AreEntryNames (name ∷ names) = IsEntryName name × AreEntryNames names

-- the path of names below a root, the last name first
abbrev pub path_below : (root : List ℕ) → List (List ℕ) → List ℕ
path_below root [] = root
path_below root (name ∷ names) = path_below root names ++ PATH_SLASH ∷ name

-- A PATH WITHIN A ROOT: the root, and below it names, none of which leads above it
pub record IsWithinRoot (root path : List ℕ) : Type 0 where
  pub names : List (List ℕ)
  pub are_names : AreEntryNames names
  pub joined : path ≡ path_below root names
