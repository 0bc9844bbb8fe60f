-- Which rows of a listing are shown: all of them, or those of some names, alone or with the
-- versions of symbols.
use Rattle.std.specs.Prelude.{ℕ, ◌&&◌, max, if◌then◌else◌, Bool, true, false, List, [], ◌∷◌, length}
use Rattle.std.specs.List.{list_any}
use Rattle.std.specs.Str.{bytes_eq}
use Rattle.elf_model.specs.Loader.{VersionQuery, NoVersion, Version, DefaultVersion, SymbolQuery, parse_query}
use Rattle.elf_model.specs.Names.{DisplayedName}
use Rattle.elf_model.specs.Names.DisplayedName.{Whole, Cut}

-- what follows a symbol's name: nothing, or its version, and whether that is the default one of the
-- name
pub data Suffix : Type 0 where
  NoSuffix : Suffix
  Suffixed : (is_default : Bool) (version : DisplayedName) → Suffix

-- a name as it is shown is this one: a name that is cut matches none
abbrev pub is_whole : DisplayedName → List ℕ → Bool
is_whole (Whole name) wanted = bytes_eq name wanted
is_whole (Cut front) wanted = false

-- what follows a name matches the request: every version matches a name alone, and a version by its
-- name must be that one
abbrev pub suits : VersionQuery → Suffix → Bool
suits NoVersion _ = true
suits (Version version) NoSuffix = false
suits (Version version) (Suffixed is_default name) = is_whole name version
suits (DefaultVersion version) NoSuffix = false
suits (DefaultVersion version) (Suffixed is_default name) = is_default && is_whole name version

-- WHICH ROWS THAT END IN A NAME ARE SHOWN: every one, or those whose name, with its version, is one
-- of some
pub data RowFilter : Type 0 where
  EveryRow : RowFilter
  RowsOf : List SymbolQuery → RowFilter

-- a name with what follows it is selected
abbrev pub is_named : DisplayedName → Suffix → SymbolQuery → Bool
is_named name suffix wanted = is_whole name wanted.name && suits wanted.asked suffix

-- the row of a name with what follows it is shown
abbrev pub chooses : RowFilter → DisplayedName → Suffix → Bool
chooses EveryRow _ _ = true
chooses (RowsOf names) name suffix = list_any (is_named name suffix) names

-- what a text selects: a name; or if versions follow names, a name and perhaps a version
abbrev pub wanted_text : (versions : Bool) → List ℕ → SymbolQuery
wanted_text versions text = if versions then parse_query text else record { name = text; asked = NoVersion }

-- the length in bytes of the longest of some texts
unfoldable pub most_bytes : List (List ℕ) → ℕ
most_bytes [] = 0
most_bytes (text ∷ texts) = max (length text) (most_bytes texts)
