-- The text around the version that a symbol references, in its line.
use Rattle.std.specs.Prelude.{List, ℕ, codes}
use Rattle.elf_model.specs.declared.formats.Format.{Format}
use Rattle.elf_model.specs.declared.formats.Format.TheVariants.{Columns, Object, Table}

-- what separates a name and its version
unfoldable pub before_request : Format → List ℕ
before_request Columns = codes "@"
before_request Table = codes "@"
before_request Object = codes ",\"version\":\""

-- what follows a version, with the end of the line
unfoldable pub after_request : Format → List ℕ
after_request Columns = codes "\n"
after_request Table = codes "\n"
after_request Object = codes "\"}\n"
