-- The names are those of the table.
use Rattle.std.proofs.Common.{refl}
use Rattle.elf_model.specs.NameTables.{file_types}
use Rattle.elf_format.proofs.Names.{short_name}
use Rattle.elf_format.proofs.rows.file_type_name.Goals as goal

pub returns : goal.returns
unfolding file_types
returns c = record { name = c.name_of.ensures; short = short_name 4 file_types c.args.kind c.name_of.result refl c.name_of.ensures }
