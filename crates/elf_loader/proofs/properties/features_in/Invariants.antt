-- Some bytes of the list are read, and what is left of it decides the rest.
use Rattle.std.proofs.Common.{◌-◌, ◌≤◌, None}
use Rattle.elf_table.specs.Ledger.{CallDid}
use Rattle.elf_loader.proofs.PropertyLaws.{LeftOf}
use Rattle.elf_loader.proofs.properties.features_in.Given as goal

abbrev pub invariant-properties : goal.invariant-properties
invariant-properties g l = record {
  within : l.done ≤ l.fn.size;
  so_far : CallDid l.fn.src l.src None l.done (λ file. LeftOf file l.fn.at l.fn.size l.done l.found);
}

abbrev pub decreases-properties : goal.decreases-properties
decreases-properties g l = l.fn.size - l.done
