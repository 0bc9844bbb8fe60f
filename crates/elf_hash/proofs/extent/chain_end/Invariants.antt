-- The chain is walked up to a symbol index, and its end is the result from there.
use Rattle.std.proofs.Common.{◌≡◌, ◌+◌, ◌-◌, ◌*◌, ◌≤◌, None}
use Rattle.elf_table.specs.Ledger.{CallDid}
use Rattle.elf_hash.specs.Prelude.{IsGnu, last_in}
use Rattle.elf_model.specs.Chains.{HashTable as Place}
use Rattle.elf_hash.proofs.extent.chain_end.Given as goal

abbrev pub invariant-chain : goal.invariant-chain
invariant-chain g l = record {
  rises : l.fn.start ≤ l.index;
  within : l.index - l.fn.start ≤ l.fn.table.place.symbols - l.fn.start;
  fits : 4 * l.fn.table.nbucket + 4 * (l.index - l.fn.start) ≤ l.fn.table.place.size;
  so_far : CallDid l.fn.src l.src None (4 * (l.index - l.fn.start))
      (λ file. (at : Place) → IsGnu file at l.fn.table → last_in file at l.fn.start ≡ last_in file at l.index);
}

abbrev pub decreases-chain : goal.decreases-chain
decreases-chain g l = l.fn.table.place.symbols - l.index
