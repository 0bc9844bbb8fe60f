use Rattle.elf_archive.proofs.FieldLaws.{first_at}
use Rattle.elf_archive.proofs.fields.find_byte.Goals as goal

pub returns-clause-first : goal.returns-clause-first
returns-clause-first c = first_at _ _ _ c.memchr.ensures
