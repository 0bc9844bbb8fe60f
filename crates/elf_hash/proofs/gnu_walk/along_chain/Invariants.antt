-- The walk has read a number of chain words and tried a number of symbols, and has requested those
-- alone.
use Rattle.std.proofs.Common.{◌≡◌, ℕ, ◌+◌, ◌-◌, ◌*◌, ◌<◌, ◌≤◌, Bool, Result, None}
use Rattle.elf_model.specs.Prelude.{HashTable as Place}
use Rattle.elf_model.specs.declared.causes.Refusal.{Refusal}
use Rattle.elf_table.specs.Ledger.{CallDid}
use Rattle.elf_hash.specs.Prelude.{HoldsHash, IsGnu, walk_bytes}
use Rattle.elf_hash.proofs.GnuSteps.{Along}
use Rattle.elf_hash.proofs.gnu_walk.along_chain.Given as goal

abbrev pub invariant-loop-at : goal.invariant-loop-at
invariant-loop-at g l = record {
  few : l.tried ≤ l.read;
  rises : l.index ≡ l.start + l.read;
  begins : 0 < l.read → l.table.first ≤ l.start;
  fits : 4 * l.read ≤ l.table.place.size;
  so_far : CallDid l.fn.src l.src None (walk_bytes 0 l.read l.tried (g.T.Matcher.cost l.trial))
      (λ file. (at : Place) (says : ℕ → Result Bool Refusal) → IsGnu file at l.table → g.T.Matcher.is_of l.trial file says
      → HoldsHash file at.place l.hash l.start → Along file at l.hash says l.read l.tried l.index l.at);
}

abbrev pub decreases-loop-at : goal.decreases-loop-at
decreases-loop-at g l = l.table.place.symbols - l.index
