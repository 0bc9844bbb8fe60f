-- The names of the versions of a shared library, by their indexes.
use Rattle.std.specs.Prelude.{ℕ, nat_lt, if◌then◌else◌, Bool, true, false, List, Option, None, Some, slice_index_or}
use Rattle.elf_resolve.specs.declared.string_buffer.HeldText.{HeldText}
use Rattle.elf_resolve.specs.declared.version_room.VersionNames.{VersionNames}

-- the name of an index, if it has one
abbrev pub text_of_number : List (Option HeldText) → (number : ℕ) → Option HeldText
text_of_number names number = slice_index_or names number None

-- an empty name
abbrev pub no_text : HeldText
no_text = record { start = 0; size = 0 }

-- THE NAME OF THE VERSION of an index: of a reference among those that are needed, of a definition
-- among those that are defined; an index of no version has an empty one
abbrev pub version_text : VersionNames → (number : ℕ) → (is_reference : Bool) → Option HeldText
version_text versions number true = text_of_number versions.needed.items number
version_text versions number false = if nat_lt number 2 then Some no_text else text_of_number versions.defined.items number
