-- The walk has come to the word of the current step, and has requested those alone.
use Rattle.std.proofs.Common.{ℕ, ◌-◌, ◌≤◌, Bool, Result, None}
use Rattle.elf_model.specs.Prelude.{HashTable as Place}
use Rattle.elf_model.specs.declared.causes.Refusal.{Refusal}
use Rattle.elf_table.specs.Ledger.{CallDid}
use Rattle.elf_hash.specs.Prelude.{IsSysv, walk_bytes}
use Rattle.elf_hash.proofs.SysvSteps.{Along}
use Rattle.elf_hash.proofs.sysv_walk.sysv_walk.Given as goal

abbrev pub invariant-loop-index : goal.invariant-loop-index
invariant-loop-index g l = record {
  few : l.tried ≤ l.table.nchain;
  so_far : CallDid l.fn.src l.src None (walk_bytes 4 l.tried l.tried (g.T.Matcher.cost l.trial))
      (λ file. (at : Place) (says : ℕ → Result Bool Refusal) → IsSysv file at l.table → g.T.Matcher.is_of l.trial file says
      → Along file at l.hash says l.tried l.index l.at);
}

abbrev pub decreases-loop-index : goal.decreases-loop-index
decreases-loop-index g l = l.table.nchain - l.tried
