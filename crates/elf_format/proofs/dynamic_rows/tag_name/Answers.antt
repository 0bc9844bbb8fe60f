-- The names are those of the tables.
use Rattle.std.proofs.Common.{refl}
use Rattle.elf_model.specs.NameTables.{dynamic_tags, gnu_dynamic_tags, standard_dynamic_tags}
use Rattle.elf_format.proofs.dynamic_rows.tag_name.Goals as goal

pub returns : goal.returns
unfolding dynamic_tags gnu_dynamic_tags standard_dynamic_tags
returns c = record {
  name = c.name_in_either_table.ensures.name;
  short = c.name_in_either_table.ensures.short 16 refl refl;
}
