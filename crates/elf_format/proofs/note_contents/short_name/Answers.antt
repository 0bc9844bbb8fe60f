-- A name of the table.
use Rattle.elf_format.specs.Tables.{entries}
use Rattle.elf_format.proofs.Names.{short_name}
use Rattle.elf_format.proofs.note_contents.short_name.Goals as goal

pub returns-clause-short : goal.returns-clause-short
returns-clause-short c = short_name 16 (entries c.args.names.now) c.args.number c.name_of.result c.requires (rw c.from.ensures at c.name_of.ensures)
