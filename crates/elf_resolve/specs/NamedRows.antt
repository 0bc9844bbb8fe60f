-- A resolver that holds the names of the members of its rows.
use Rattle.std.specs.Prelude.{ℕ, ◌≡◌}
use Rattle.elf_model.specs.LinkArchives.{LinkFiles}
use Rattle.elf_model.specs.Names.{DisplayedName}
use Rattle.elf_resolve.specs.RowNames.{member_names, names_of_rows}
use Rattle.elf_resolve.specs.declared.resolver.Resolver.{Resolver}

-- THE NAMES HELD are those of the rows, by the bytes of files
abbrev pub named_in : LinkFiles → (input member : ℕ) → DisplayedName
named_in files input = member_names (files.file input)

abbrev pub HasNames : LinkFiles → Resolver → Type 0
HasNames files link = link.room.names ≡ names_of_rows (named_in files) 0 link.link.rows.rows

-- and they still are
abbrev pub KeepsRowNames : LinkFiles → (old new : Resolver) → Type 0
KeepsRowNames files old new = HasNames files old → HasNames files new
