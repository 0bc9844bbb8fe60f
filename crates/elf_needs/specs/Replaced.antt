-- The names of the libraries that an object needs, with their tokens replaced.
use Rattle.std.specs.Prelude.{ℕ, ◌≡◌, ◌==◌, ◌||◌, not, if◌then◌else◌, nat_eq, List, [], codes, drop, length, slice_get, slice_index_or, Option, Some}
use Rattle.std.specs.List.{starts_with}
use Rattle.elf_needs.specs.Called.{IsDirOfObject}
use Rattle.elf_library.specs.Prelude.{LinkInfoState}
use Rattle.elf_needs.specs.Searching.{expanded, is_rooted}
use Rattle.elf_library.specs.declared.links.NeededLibrary.{NeededLibrary}

-- a directory that begins with a root, by what follows that: it is below the root if that is empty
-- or begins with a slash
abbrev pub after_root : (directory within : List ℕ) → List ℕ
after_root directory within = if length within == 0 then codes "/" else if is_rooted within then within else directory

-- a directory, within a root if it is below that
unfoldable pub within_root : (root directory : List ℕ) → List ℕ
within_root root directory =
    if length root == 0 || not (starts_with nat_eq directory root) then directory else after_root directory (drop (length root) directory)

-- the name of a need
abbrev pub needed_name_of : LinkInfoState → NeededLibrary → List ℕ
needed_name_of links need = slice_index_or links.held.texts need.name []

-- THE TOKENS OF A NAME ARE REPLACED, by a directory: the need at an index has the same entry, and
-- that name
pub record ReplacesName (old new : LinkInfoState) (directory : List ℕ) (index : ℕ) (need : NeededLibrary) : Type 0 where
  pub other : NeededLibrary
  pub is_there : slice_get new.needs index ≡ Some other
  pub same_entry : other.at ≡ need.at
  pub its_name : needed_name_of new other ≡ expanded directory 0 (needed_name_of old need)

-- in the directory of a path, within a root
pub record ReplacesIn (root : List ℕ) (paths : List (List ℕ)) (path : Option ℕ) (old new : LinkInfoState) (index : ℕ) (need : NeededLibrary) : Type 0 where
  pub directory : List ℕ
  pub is_dir : IsDirOfObject paths path directory
  pub replaces : ReplacesName old new (within_root root directory) index need
