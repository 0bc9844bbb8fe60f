-- What surrounds a version after a name.
use Rattle.std.specs.Prelude.{if◌then◌else◌, Bool, List, ℕ, ◌++◌, codes}
use Rattle.elf_model.specs.declared.formats.Format.TheVariants.{Columns, Object, Table}
use Rattle.elf_model.specs.declared.formats.Format.{Format}

-- what separates a name and its version
unfoldable pub before_version : Format → (is_default : Bool) → List ℕ
before_version Columns is_default = if is_default then codes "@@" else codes "@"
before_version Table is_default = if is_default then codes "@@" else codes "@"
before_version Object is_default = codes ",\"version\":\""

-- what follows a version, with the end of the line
unfoldable pub after_version : Format → (is_cut is_default : Bool) → List ℕ
after_version Columns is_cut is_default = if is_cut then codes "\\+\n" else codes "\n"
after_version Table is_cut is_default = if is_cut then codes "\\+\n" else codes "\n"
after_version Object is_cut is_default =
    (if is_cut then codes "\",\"version_cut\":true" else codes "\"")
    ++ (if is_default then codes ",\"default\":true}\n" else codes ",\"default\":false}\n")
