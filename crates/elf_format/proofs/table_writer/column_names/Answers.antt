-- The names are those of the table.
use Rattle.elf_model.specs.TableTexts.{headings}
use Rattle.elf_format.proofs.table_writer.column_names.Goals as goal

pub returns : goal.returns
unfolding headings
returns c = rw c.from.ensures at c.name_of.ensures
