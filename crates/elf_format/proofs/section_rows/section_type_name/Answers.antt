-- The names are those of the three tables.
use Rattle.std.proofs.Common.{refl, sym}
use Rattle.elf_model.specs.NameTables.{further_section_types, gnu_section_types, names_on_x86_64, names_where, section_types, standard_section_types, x86_64_section_types}
use Rattle.elf_format.proofs.Names.{copied_or, name_of_three, short_or}
use Rattle.elf_format.proofs.section_rows.section_type_name.Goals as goal

pub returns : goal.returns
unfolding further_section_types gnu_section_types section_types standard_section_types x86_64_section_types
returns c =
    let naming = c.args.naming in
    record {
      name =
          rw (c.or.ensures, copied_or, c.name_in_either_table.ensures.name, c.name_in_either_table-unwind.ensures.name, c.is_gnu_on_x86_64.ensures)
          (sym (name_of_three standard_section_types (names_where naming.gnu gnu_section_types) (names_on_x86_64 naming.gnu naming.machine x86_64_section_types) c.args.kind));
      short = rw c.or.ensures (short_or 13 _ _ (c.name_in_either_table.ensures.short 13 refl refl) (c.name_in_either_table-unwind.ensures.short 13 refl refl));
    }
