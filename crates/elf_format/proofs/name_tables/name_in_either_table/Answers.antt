-- Each name is one of a table, and these are short.
use Rattle.elf_format.specs.Tables.{entries}
use Rattle.elf_format.proofs.Names.{short_name}
use Rattle.elf_format.proofs.name_tables.name_in_either_table.Goals as goal

pub returns-in-Some-clause-short : goal.returns-in-Some-clause-short
returns-in-Some-clause-short c = λ most short more.
    rw c.in-Some.is at (short_name most (entries c.args.names.now) c.args.number c.name_of.result short c.name_of.ensures)

pub returns-in-None-clause-short : goal.returns-in-None-clause-short
returns-in-None-clause-short c = λ most short more.
    short_name most (entries c.args.more.now) c.args.number c.name_of-in-None.result more c.name_of-in-None.ensures
