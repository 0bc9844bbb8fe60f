-- What is left to bisect gives what all entries give.
use Rattle.std.proofs.Common.{◌≡◌, ◌*◌, ◌-◌, ◌≤◌, None}
use Rattle.elf_model.specs.Prelude.{bisected, key_order}
use Rattle.elf_table.specs.Prelude.{CallDid}
use Rattle.elf_library.proofs.cache_search.bisect.Given as goal

abbrev pub invariant-loop-step : goal.invariant-loop-step
invariant-loop-step g l = record {
  high : l.high ≤ l.cache.count;
  did : CallDid l.fn.src l.src None (4120 * l._step) (λ file. bisected (key_order file l.cache l.name) 32 0 l.cache.count ≡ bisected (key_order file l.cache l.name) (32 - l._step) l.low l.high);
}
