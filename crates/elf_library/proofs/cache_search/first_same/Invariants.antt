-- The entries from here up to the one that has the name have it too.
use Rattle.std.proofs.Common.{◌≡◌, ◌*◌, ◌-◌, ◌≤◌, None}
use Rattle.elf_model.specs.Prelude.{first_same, key_order}
use Rattle.elf_table.specs.Prelude.{CallDid}
use Rattle.elf_library.proofs.cache_search.first_same.Given as goal

abbrev pub invariant-loop-first : goal.invariant-loop-first
invariant-loop-first g l = record {
  most : l.first ≤ l.fn.index;
  did : CallDid l.fn.src l.src None (4120 * (l.fn.index - l.first)) (λ file. first_same (key_order file l.cache l.name) l.fn.index ≡ first_same (key_order file l.cache l.name) l.first);
}

abbrev pub decreases-loop-first : goal.decreases-loop-first
decreases-loop-first g l = l.first
