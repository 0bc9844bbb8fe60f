-- The names are those of the tables.
use Rattle.std.proofs.Common.{refl}
use Rattle.elf_model.specs.NameTables.{further_relocation_types, relocation_types, standard_relocation_types}
use Rattle.elf_format.proofs.relocation_rows.relocation_type_name.Goals as goal

pub returns : goal.returns
unfolding further_relocation_types relocation_types standard_relocation_types
returns c = record {
  name = rw c.from.ensures at c.name_in_either_table.ensures.name;
  short = c.name_in_either_table.ensures.short 10 refl refl;
}
