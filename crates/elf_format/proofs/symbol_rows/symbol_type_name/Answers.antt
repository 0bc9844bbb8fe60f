-- The names are those of the tables.
use Rattle.std.proofs.Common.{refl}
use Rattle.elf_model.specs.NameTables.{gnu_symbol_types, standard_symbol_types, symbol_types}
use Rattle.elf_format.proofs.symbol_rows.symbol_type_name.Goals as goal

pub returns : goal.returns
unfolding gnu_symbol_types standard_symbol_types symbol_types
returns c = record {
  name = c.name_in_either_table.ensures.name;
  short = c.name_in_either_table.ensures.short 7 refl refl;
}
