-- What lookups have in common, within what is left of a budget.
use Rattle.std.proofs.Common.{of_calls}
use Rattle.elf_library.proofs.ChargeLaws.{kept_prepared}
use Rattle.elf_library.proofs.object.LookupObject.prepare.Goals as goal

pub invariant_of-self : goal.invariant_of-self
invariant_of-self g c =
    let reads = c.charge-ready.ensures.reads in
    rw (c.keep_if.ensures.same, c.keep_if-2.ensures.same) (kept_prepared reads.sets reads.frees c.charge-ready.ensures.pays c.self.invariant (search of_calls))
