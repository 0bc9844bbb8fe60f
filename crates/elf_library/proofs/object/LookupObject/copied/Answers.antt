-- The entry is read within what is left of a budget.
use Rattle.std.proofs.Common.{of_calls}
use Rattle.elf_library.proofs.FilterLaws.{kept_between}
use Rattle.elf_library.proofs.object.LookupObject.copied.Goals as goal

pub invariant_of-self : goal.invariant_of-self
invariant_of-self g c =
    let reads = c.charge.ensures.reads in
    kept_between reads.sets (search of_calls) reads.frees c.self.invariant
