-- Where glibc's dynamic loader searches for a library that a program needs: the paths that are
-- tried for its name, in order, by texts alone (gABI 5, Shared Object Dependencies; ld.so(8)).
use Rattle.std.specs.Prelude.{◌≡◌, ◌≢◌, ◌<◌, ◌⊎◌, take, ℕ, zero, suc, ◌==◌, ◌&&◌, ◌||◌, nat_eq, nat_lt, not, Bool, true, false, if◌then◌else◌, List, [], ◌∷◌, ◌++◌, length, slice_index, codes, Option, None, Some, option_map}
use Rattle.std.specs.List.{cons_option, list_any, starts_with}
use Rattle.elf_format.specs.declared.needed_objects.FoundBy.{FoundBy}
use Rattle.elf_format.specs.declared.needed_objects.FoundBy.TheVariants as by

-- `:` and `;` separate directories, `/` the names of a path, `$` begins a token
abbrev pub COLON : ℕ
COLON = 58

abbrev pub SEMICOLON : ℕ
SEMICOLON = 59

abbrev pub PATH_SLASH : ℕ
PATH_SLASH = 47

abbrev pub DOLLAR : ℕ
DOLLAR = 36

-- the maximum number of bytes of a path: no longer one can be opened
abbrev pub MOST_PATH_BYTES : ℕ
MOST_PATH_BYTES = 4095

-- TOKENS. A byte of a name: a letter, a digit, or `_`
unfoldable pub is_name_byte : ℕ → Bool
is_name_byte b = (not (nat_lt b 48) && nat_lt b 58) || (not (nat_lt b 65) && nat_lt b 91) || (not (nat_lt b 97) && nat_lt b 123) || b == 95

-- a token: its replacement, and how many bytes it has after its `$`
pub record Token : Type 0 where
  pub value : List ℕ
  pub size : ℕ

-- bytes begin with a name that ends there, or with the name in braces; if so that is how many bytes
-- it has
unfoldable pub token_size : (bytes name braced : List ℕ) → Option ℕ
token_size bytes name braced =
    if starts_with nat_eq bytes braced then Some (length braced)
    else if starts_with nat_eq bytes name && not (is_name_byte (slice_index bytes (length name))) then Some (length name)
    else None

-- the token of a name, otherwise another
abbrev pub token_or : Option ℕ → List ℕ → Option Token → Option Token
token_or (Some size) value other = Some (record { value = value; size = size })
token_or None value other = other

-- the token after a `$`: the directory of the object that has it, and the two names of the platform
unfoldable pub token_in : (origin bytes : List ℕ) → Option Token
token_in origin bytes =
    token_or (token_size bytes (codes "ORIGIN") (codes "{ORIGIN}")) origin
    (token_or (token_size bytes (codes "LIB") (codes "{LIB}")) (codes "lib/x86_64-linux-gnu")
    (token_or (token_size bytes (codes "PLATFORM") (codes "{PLATFORM}")) (codes "x86_64") None))

-- the token with which a text begins
unfoldable pub token_at : (origin text : List ℕ) → Option Token
token_at origin [] = None
token_at origin (b ∷ text) = elim (b == DOLLAR) [ false ↦ None | true ↦ token_in origin text ]

-- a text after its first bytes, with its tokens replaced; a `$` that begins none is a byte like any
-- other
unfoldable pub expanded : (origin : List ℕ) (skip : ℕ) (text : List ℕ) → List ℕ
expanded origin skip [] = []
expanded origin (suc skip) (b ∷ text) = expanded origin skip text
expanded origin zero (b ∷ text) = elim (token_at origin (b ∷ text)) [
  | None ↦ b ∷ expanded origin 0 text
  | Some token ↦ token.value ++ expanded origin token.size text
]

-- DIRECTORIES. A list of directories, separated by colons and by another byte, the directory that
-- replaces `$ORIGIN`: if there is none, no token is replaced; and how a library in one of them was
-- found
pub record SearchPathText : Type 0 where
  pub text : List ℕ
  pub separator : ℕ
  pub origin : Option (List ℕ)
  pub found_by : FoundBy

abbrev pub is_separator : (separator b : ℕ) → Bool
is_separator separator b = b == COLON || b == separator

-- the entries of a list
unfoldable pub parted : (separator : ℕ) (entry text : List ℕ) → List (List ℕ)
parted separator entry [] = entry ∷ []
parted separator entry (b ∷ text) = elim (is_separator separator b) [
  | true ↦ entry ∷ parted separator [] text
  | false ↦ parted separator (entry ++ b ∷ []) text
]

-- an empty text has none
unfoldable pub entries_of : (separator : ℕ) → List ℕ → List (List ℕ)
entries_of separator [] = []
entries_of separator (b ∷ text) = parted separator [] (b ∷ text)

-- the directory that an entry names
unfoldable pub dir_of_entry : Option (List ℕ) → List ℕ → List ℕ
dir_of_entry None entry = entry
dir_of_entry (Some origin) entry = expanded origin 0 entry

-- PATHS. What begins with a slash is below another root
abbrev pub is_rooted : List ℕ → Bool
is_rooted text = slice_index text 0 == PATH_SLASH

abbrev pub root_before : (root text : List ℕ) → List ℕ
root_before root text = if is_rooted text then root else []

-- what separates a directory and a name in it: a slash, even if the directory ends in one; the
-- empty directory is the current one
unfoldable pub after_dir : List ℕ → List ℕ
after_dir directory =
    if length directory == 0 then codes "./" else codes "/"

-- the path of a name in a directory
abbrev pub path_in : (directory name : List ℕ) → List ℕ
path_in directory name = directory ++ (after_dir directory ++ name)

-- a path that can be opened
abbrev pub if_short : List ℕ → Option (List ℕ)
if_short path = if nat_lt MOST_PATH_BYTES (length path) then None else Some path

-- the path of a name in the directory that an entry names: none if it is too long
unfoldable pub entry_path : (root name : List ℕ) (origin : Option (List ℕ)) (entry : List ℕ) → Option (List ℕ)
entry_path root name origin entry = if_short (path_in (root_before root entry ++ dir_of_entry origin entry) name)

-- the paths of a name in the directories that entries name
unfoldable pub entry_paths : (root name : List ℕ) (origin : Option (List ℕ)) → List (List ℕ) → List (List ℕ)
entry_paths root name origin [] = []
entry_paths root name origin (entry ∷ entries) = cons_option (entry_path root name origin entry) (entry_paths root name origin entries)

-- the paths of a name in a list of directories
abbrev pub dir_paths : (root name : List ℕ) → SearchPathText → List (List ℕ)
dir_paths root name directories = entry_paths root name directories.origin (entries_of directories.separator directories.text)

-- THE ORDER. An object that needs others: its DT_RPATH and its DT_RUNPATH, if it has them, the
-- directory that it is in, and whether its needs are not searched for in the default directories
-- (DF_1_NODEFLIB)
pub record NeedingObject : Type 0 where
  pub rpath : Option (List ℕ)
  pub runpath : Option (List ℕ)
  pub directory : List ℕ
  pub nodeflib : Bool

-- the directories that a text of an object gives
abbrev pub object_dirs : (directory text : List ℕ) → FoundBy → SearchPathText
object_dirs directory text found_by = record { text = text; separator = COLON; origin = Some directory; found_by = found_by }

-- what an object's own DT_RPATH gives: nothing if it has DT_RUNPATH
abbrev pub rpath_of : NeedingObject → Option SearchPathText
rpath_of needer = elim needer.runpath [
  | Some text ↦ None
  | None ↦ option_map (λ text. object_dirs needer.directory text by.Rpath) needer.rpath
]

-- what its DT_RUNPATH gives
abbrev pub runpath_of : NeedingObject → Option SearchPathText
runpath_of needer = option_map (λ text. object_dirs needer.directory text by.Runpath) needer.runpath

-- what DT_RPATH gives of an object, of the one that first needed it, and so on
unfoldable pub rpath_dirs : List NeedingObject → List SearchPathText
rpath_dirs [] = []
rpath_dirs (needer ∷ above) = cons_option (rpath_of needer) (rpath_dirs above)

-- what DT_RUNPATH of the first gives
unfoldable pub first_runpath : List NeedingObject → Option SearchPathText
first_runpath [] = None
first_runpath (needer ∷ above) = runpath_of needer

-- DT_RPATH counts only if the object that needs the library has no DT_RUNPATH
abbrev pub unless_runpath : Option SearchPathText → List SearchPathText → List SearchPathText
unless_runpath None directories = directories
unless_runpath (Some runpath) directories = []

-- the library path that is given: semicolons separate its directories too, and tokens are replaced
-- in it as in a text of the program, whose directory that is
abbrev pub library_dirs : (program text : List ℕ) → SearchPathText
library_dirs program text = record { text = text; separator = SEMICOLON; origin = Some program; found_by = by.LibraryPath }

-- the default directories: no token is replaced in them
abbrev pub default_dirs : List ℕ → SearchPathText
default_dirs text = record { text = text; separator = COLON; origin = None; found_by = by.Default }

-- the directories of a system, which are searched if no others are given, by whether `/lib` and
-- `/usr/lib` have a directory `x86_64-linux-gnu`: if so, `/lib64` or `/usr/lib64` is not searched
unfoldable pub system_dirs : (lib usr : Bool) → List ℕ
system_dirs lib usr =
    codes "/lib/x86_64-linux-gnu:/usr/lib/x86_64-linux-gnu" ++ ((if lib then [] else codes ":/lib64") ++ ((if usr then [] else codes ":/usr/lib64") ++ codes ":/lib:/usr/lib"))

-- they are left out if the first of these objects says so
unfoldable pub default_for : List NeedingObject → List ℕ → List ℕ
default_for [] default = default
default_for (needer ∷ above) default = if needer.nodeflib then [] else default

-- THE DIRECTORIES in which a library is searched that an object needs, the first of these; after it
-- comes the object that first needed it, and so on. Its DT_RPATH and theirs, unless it has
-- DT_RUNPATH; the given library path; its DT_RUNPATH; the default directories
abbrev pub search_dirs : (library : SearchPathText) (default : List ℕ) → List NeedingObject → List SearchPathText
search_dirs library default needers =
    unless_runpath (first_runpath needers) (rpath_dirs needers) ++ (library ∷ cons_option (first_runpath needers) (default_dirs (default_for needers default) ∷ []))

-- a path is below a directory, and below one of some
abbrev pub is_below : (directory path : List ℕ) → Bool
is_below directory path = starts_with nat_eq path directory && slice_index path (length directory) == PATH_SLASH

unfoldable pub is_below_any : List (List ℕ) → (path : List ℕ) → Bool
is_below_any [] path = false
is_below_any (directory ∷ directories) path = is_below directory path || is_below_any directories path

-- it is below one of the default directories
abbrev pub is_below_default : (default path : List ℕ) → Bool
is_below_default default path = is_below_any (entries_of COLON default) path

-- the paths of a name in all of them
unfoldable pub searched_paths : (root name : List ℕ) → List SearchPathText → List (List ℕ)
searched_paths root name [] = []
searched_paths root name (directories ∷ others) = dir_paths root name directories ++ searched_paths root name others

-- the name of a library that an object needs: its tokens are replaced as in a text of the object,
-- the first of these
unfoldable pub replaced_name : List NeedingObject → List ℕ → List ℕ
replaced_name [] name = name
replaced_name (needer ∷ above) name = expanded needer.directory 0 name

-- the paths that are tried for a name whose tokens are replaced: if it has a slash that path alone
unfoldable pub paths_of_name : (root : List ℕ) (library : SearchPathText) (default : List ℕ) → List NeedingObject → (name : List ℕ) → List (List ℕ)
paths_of_name root library default needers name = elim (list_any (λ b. b == PATH_SLASH) name) [
  | true ↦ cons_option (if_short (root_before root name ++ name)) []
  | false ↦ searched_paths root name (search_dirs library default needers)
]

-- THE PATHS THAT ARE TRIED for the name of a library that an object needs, with a program's
-- directory
unfoldable pub paths_tried : (root program library default : List ℕ) → List NeedingObject → (name : List ℕ) → List (List ℕ)
paths_tried root program library default needers name =
    paths_of_name root (library_dirs program library) default needers (replaced_name needers name)

-- THE DIRECTORY of a path: what is before its last slash, `/` if nothing is, and the current
-- directory if there is no slash
pub record LastSlash (path : List ℕ) (place : ℕ) : Type 0 where
  pub below : place < length path
  pub is_slash : slice_index path place ≡ PATH_SLASH
  pub none_behind : (k : ℕ) → place < k → k < length path → slice_index path k ≢ PATH_SLASH

abbrev pub IsDirOf : (path directory : List ℕ) → Type 0
IsDirOf path directory =
    ((place : ℕ) × LastSlash path place × (directory ≡ (if place == 0 then codes "/" else take place path)))
    ⊎ (((k : ℕ) → k < length path → slice_index path k ≢ PATH_SLASH) × (directory ≡ codes "."))
