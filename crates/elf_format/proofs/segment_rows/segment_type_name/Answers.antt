-- The names are those of the tables.
use Rattle.std.proofs.Common.{refl}
use Rattle.elf_model.specs.NameTables.{gnu_segment_types, segment_types, standard_segment_types}
use Rattle.elf_format.proofs.segment_rows.segment_type_name.Goals as goal

pub returns : goal.returns
unfolding gnu_segment_types segment_types standard_segment_types
returns c = record {
  name = c.name_in_either_table.ensures.name;
  short = c.name_in_either_table.ensures.short 8 refl refl;
}
