-- The effect of calls on a path that is composed.
use Rattle.std.specs.Prelude.{ℕ, ◌≡◌, ◌+◌, ◌<◌, Bool, true, false, List, [], ◌++◌, length, map, Option, None, Some}
use Rattle.std.specs.Borrow.{Bor}
use Rattle.elf_needs.specs.Searching.{SearchPathText, MOST_PATH_BYTES, NeedingObject, Token, parted}
use Rattle.elf_needs.specs.declared.search_path_list.SearchPathList.{SearchPathList}
use Rattle.elf_needs.specs.declared.needers.NeedingObject.{NeedingObject as BorrowedNeeder}
use Rattle.elf_needs.specs.declared.tokens.StringToken.{StringToken}

-- a text was appended to a path; or there is no such text, or it does not fit
abbrev pub PutsText : (old new : List ℕ) → Option (List ℕ) → Bool → Type 0
PutsText old new found true = (text : List ℕ) × (found ≡ Some text) × (new ≡ old ++ text)
PutsText old new found false = (text : List ℕ) → found ≡ Some text → MOST_PATH_BYTES < length old + length text

-- a path was composed, or there is none
abbrev pub IsMade : List ℕ → Option (List ℕ) → Bool → Type 0
IsMade path wanted true = wanted ≡ Some path
IsMade path wanted false = wanted ≡ None

-- a token by borrowed bytes
abbrev pub token_of : StringToken → Token
token_of token = record { value = token.value.now; size = token.size }

-- directories by borrowed texts
abbrev pub origin_of : Option (Bor (List ℕ)) → Option (List ℕ)
origin_of None = None
origin_of (Some origin) = Some origin.now

abbrev pub dirs_of : SearchPathList → SearchPathText
dirs_of directories = record { text = directories.text.now; separator = directories.separator; origin = origin_of directories.origin; found_by = directories.found_by }

abbrev pub dirs_in : List SearchPathList → List SearchPathText
dirs_in lists = map dirs_of lists

-- objects by borrowed texts
abbrev pub needer_of : BorrowedNeeder → NeedingObject
needer_of needer = record { rpath = origin_of needer.rpath; runpath = origin_of needer.runpath; directory = needer.directory.now; nodeflib = needer.nodeflib }

abbrev pub needers_of : List BorrowedNeeder → List NeedingObject
needers_of needers = map needer_of needers

-- the entries of what is left of a text; if none is left there is none
abbrev pub left_entries : (separator : ℕ) → Option (Bor (List ℕ)) → List (List ℕ)
left_entries separator None = []
left_entries separator (Some text) = parted separator [] text.now

-- how many bytes are left of a text, with one for each of its entries' ends
abbrev pub left_bytes : Option (Bor (List ℕ)) → ℕ
left_bytes None = 0
left_bytes (Some text) = length text.now + 1
