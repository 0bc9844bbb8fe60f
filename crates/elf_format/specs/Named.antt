-- Lines that end in a name, and the text after it.
pub use Rattle.elf_model.specs.ShownNames.{shown_as}
use Rattle.std.specs.Prelude.{ℕ, List, ◌++◌}
use Rattle.elf_model.specs.Prelude.{DisplayedName, LinePrefix, escaped, name_member, name_text, string_text}
use Rattle.elf_model.specs.declared.formats.Format.TheVariants.{Columns, Object, Table}
use Rattle.elf_model.specs.declared.formats.Format.{Format}

-- a line that ends in a name and a text after it, including the line's end
unfoldable pub line_tailed : Format → (key text : List ℕ) → DisplayedName → List ℕ → List ℕ
line_tailed Columns key text name tail = text ++ (name_text name ++ tail)
line_tailed Table key text name tail = text ++ (name_text name ++ tail)
line_tailed Object key text name tail = text ++ (name_member key name ++ tail)

abbrev pub tailed_line : LinePrefix → DisplayedName → List ℕ → List ℕ
tailed_line front name tail = line_tailed front.format front.key front.text name tail

-- the bytes of a name as they are escaped, in a column or in a string
unfoldable pub escaped_bytes : Format → List ℕ → List ℕ
escaped_bytes Columns name = escaped name
escaped_bytes Table name = escaped name
escaped_bytes Object name = string_text (escaped name)
