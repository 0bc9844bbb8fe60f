-- The names are those of the tables.
use Rattle.std.proofs.Common.{refl}
use Rattle.elf_model.specs.NameTables.{bindings, gnu_bindings, standard_bindings}
use Rattle.elf_format.proofs.symbol_rows.binding_name.Goals as goal

pub returns : goal.returns
unfolding bindings gnu_bindings standard_bindings
returns c = record {
  name = c.name_in_either_table.ensures.name;
  short = c.name_in_either_table.ensures.short 6 refl refl;
}
