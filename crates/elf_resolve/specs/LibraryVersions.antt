-- The names of the versions that a shared library defines and of those that it needs, by its bytes
-- (Linux Standard Base Core, Symbol Versioning).
use Rattle.std.specs.Prelude.{ℕ, ◌==◌, if◌then◌else◌, Bool, true, false, List, [], ◌∷◌, Option, None, Some, Result, Ok, Err}
use Rattle.elf_model.specs.LinkSymbols.{and_then, as_any, link_name}
use Rattle.elf_model.specs.Records.{sh_offset, sh_size}
use Rattle.elf_model.specs.Tables.{strings_of}
use Rattle.elf_model.specs.Versions.{Versions, VisitedRecord, name_index, named_at, names_version, number_in, number_word, versions_in}
use Rattle.elf_model.specs.declared.causes.Refusal.{Refusal}
use Rattle.elf_model.specs.declared.link_states.LinkRefusal.{LinkRefusal}
use Rattle.elf_model.specs.declared.versions.VersionKind.{VersionKind}
use Rattle.elf_model.specs.declared.versions.VersionKind.TheVariants.{File}

-- a version index and the name of its version
pub record NumberedName : Type 0 where
  pub number : ℕ
  pub name : List ℕ

-- THE NAME OF AN INDEX is the first one that it has
abbrev pub name_of_number : List NumberedName → (number : ℕ) → Option (List ℕ)
name_of_number [] number = None
name_of_number (first ∷ names) number = if first.number == number then Some first.name else name_of_number names number

-- the name of a record is that of a version, unless the record names the library itself
abbrev pub numbered : (names_version : Bool) → (number : ℕ) → Result (List ℕ) LinkRefusal → Result (List NumberedName) LinkRefusal
numbered names_version number (Err refusal) = Err refusal
numbered true number (Ok name) = Ok (record { number = number; name = name } ∷ [])
numbered false number (Ok name) = Ok []

-- a record is one of a needed file
abbrev pub is_needed_file : VersionKind → Bool
is_needed_file File = true
is_needed_file _ = false

-- WHAT A RECORD NAMES, or the refusal of its name; the name of a needed file does not count
unfoldable pub names_of_record : List ℕ → (strings : List ℕ) → VisitedRecord → Result (List NumberedName) LinkRefusal
names_of_record file strings met =
    if is_needed_file met.kind then Ok []
    else numbered (names_version file met) (number_in (number_word file met)) (link_name strings (name_index file met) (named_at file met))

-- what the records name in their order, before what ends them
abbrev pub names_before : Option Refusal → Result (List NumberedName) LinkRefusal
names_before None = Ok []
names_before (Some refusal) = Err (as_any refusal)

abbrev pub names_met : List ℕ → (strings : List ℕ) → List VisitedRecord → Option Refusal → Result (List NumberedName) LinkRefusal
names_met file strings [] cut = names_before cut
names_met file strings (met ∷ others) cut = and_then (names_of_record file strings met) (names_met file strings others cut)

-- WHAT THE RECORDS OF A WALK NAME, up to the first refusal of a record or of a name
abbrev pub names_visited : List ℕ → (strings : List ℕ) → Versions → Result (List NumberedName) LinkRefusal
names_visited file strings versions = names_met file strings versions.met versions.cut

-- THE NAMES OF THE VERSIONS in the section of definitions, or of needs, whose header is at an offset
unfoldable pub version_names : VersionKind → List ℕ → (at : ℕ) → Result (List NumberedName) LinkRefusal
version_names kind file at = names_visited file (strings_of file at) (versions_in kind file at (sh_offset file at) (sh_size file at))
