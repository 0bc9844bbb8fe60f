-- Nothing is kept yet but the tables.
use Rattle.elf_library.proofs.FilterLaws.{no_filter}
use Rattle.elf_library.proofs.object.LookupObject.new.Goals as goal

pub invariant_of-result : goal.invariant_of-result
invariant_of-result g c = (
  c.requires.kept,
  c.requires.versions,
  no_filter c.args.source _ _ c.new.ensures,
  record { known = λ file held told is. c.new-2.ensures file told },
  record { known = λ file held told is. c.new-3.ensures file told },
)
