-- The addend of a relocation entry as a field of its line.
use Rattle.std.specs.Prelude.{ℤ, Option, None, Some, codes}
use Rattle.elf_model.specs.Fields.{Field}
use Rattle.elf_model.specs.Fields.Field.{NoAddend, Signed}

abbrev pub addend_shown : Option ℤ → Field
addend_shown None = NoAddend
addend_shown (Some addend) = Signed (codes "addend") addend
