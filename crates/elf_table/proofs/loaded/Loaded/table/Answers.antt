-- The size is that of the section header in the store.
use Rattle.elf_table.proofs.loaded.Loaded.table.Goals as goal

pub returns-clause-lies : goal.returns-clause-lies
returns-clause-lies g c = rw (c.section_header.ensures.fields.sh_size, c.size.ensures) at c.checked_table.ensures.lies
