-- The table is the file's.
use Rattle.elf_library.proofs.VersionTableLaws.{needs_of}
use Rattle.elf_library.proofs.object.LookupObject.needs.Goals as goal

pub returns-clause-known : goal.returns-clause-known
returns-clause-known g c = rw (← c.self.view_is) (λ file held. let knows = c.self.invariant.1.known file held in (needs_of file c.self.inside.versions knows.0, knows.1))
