-- The names are those of the tables.
use Rattle.std.proofs.Common.{refl}
use Rattle.elf_model.specs.NameTables.{places, standard_places, x86_64_places}
use Rattle.elf_format.proofs.symbol_rows.place_name.Goals as goal

pub returns : goal.returns
unfolding places standard_places x86_64_places
returns c = record {
  name = rw c.is_gnu_on_x86_64-further.ensures at c.name_in_either_table.ensures.name;
  short = c.name_in_either_table.ensures.short 5 refl refl;
}
