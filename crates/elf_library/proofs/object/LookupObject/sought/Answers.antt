-- What a symbol references, within what is left of a budget.
use Rattle.std.proofs.Common.{of_calls}
use Rattle.elf_library.proofs.ChargeLaws.{seeks_within}
use Rattle.elf_library.proofs.FilterLaws.{kept_after}
use Rattle.elf_library.proofs.IndexLaws.{same_indices}
use Rattle.elf_library.proofs.object.LookupObject.sought.Goals as goal

pub returns : goal.returns
returns g c =
    let reads = c.charge.ensures.reads in
    rw (← c.self.view_is) (seeks_within reads.sets reads.frees c.charge.ensures.pays c.self.invariant.0 c.self.invariant.4 (search of_calls) (search of_calls))

pub invariant_of-self : goal.invariant_of-self
invariant_of-self g c =
    let reads = c.charge.ensures.reads in
    kept_after reads.sets (search of_calls) reads.frees c.self.invariant same_indices (search of_calls)
