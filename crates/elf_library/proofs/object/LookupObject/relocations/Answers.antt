-- The entries are found within what is left of a budget.
use Rattle.std.proofs.Common.{of_calls}
use Rattle.elf_library.proofs.FilterLaws.{kept_between}
use Rattle.elf_library.proofs.object.LookupObject.relocations.Goals as goal

pub invariant_of-self : goal.invariant_of-self
invariant_of-self g c =
    let reads = c.charge.ensures.reads in
    kept_between reads.sets (search of_calls) reads.frees c.self.invariant

pub returns-clause-slots : goal.returns-clause-slots
returns-clause-slots g c = search of_calls
