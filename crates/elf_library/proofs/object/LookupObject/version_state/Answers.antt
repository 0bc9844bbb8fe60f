-- The search for a version, within what is left of a budget.
use Rattle.std.proofs.Common.{of_calls}
use Rattle.elf_library.proofs.ChargeLaws.{finds_state_within}
use Rattle.elf_library.proofs.FilterLaws.{kept_between}
use Rattle.elf_library.proofs.object.LookupObject.version_state.Goals as goal

pub returns : goal.returns
returns g c =
    let reads = c.charge.ensures.reads in
    rw (← c.self.view_is) (finds_state_within reads.sets reads.frees c.charge.ensures.pays c.self.invariant.1 (search of_calls))

pub invariant_of-self : goal.invariant_of-self
invariant_of-self g c =
    let reads = c.charge.ensures.reads in
    kept_between reads.sets (search of_calls) reads.frees c.self.invariant
