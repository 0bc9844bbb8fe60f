-- The names are those of the table.
use Rattle.std.proofs.Common.{refl}
use Rattle.elf_model.specs.NameTables.{visibilities}
use Rattle.elf_format.proofs.Names.{short_name}
use Rattle.elf_format.proofs.symbol_rows.visibility_name.Goals as goal

pub returns : goal.returns
unfolding visibilities
returns c = record { name = c.name_of.ensures; short = short_name 9 visibilities c.args.visibility c.name_of.result refl c.name_of.ensures }
