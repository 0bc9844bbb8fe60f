-- None of the entries before this one gives a path.
use Rattle.std.proofs.Common.{◌≡◌, ◌*◌, ◌-◌, ◌≤◌, None}
use Rattle.elf_model.specs.Prelude.{first_path, key_order}
use Rattle.elf_table.specs.Prelude.{CallDid}
use Rattle.elf_library.proofs.cache_search.first_path.Given as goal

abbrev pub invariant-loop-index : goal.invariant-loop-index
invariant-loop-index g l = record {
  least : l.fn.among.0 ≤ l.index;
  most : l.index ≤ l.fn.among.1;
  did : CallDid l.fn.src l.src None (8240 * (l.index - l.fn.among.0))
      (λ file. first_path file l.cache (key_order file l.cache l.name) l.fn.among.0 (l.fn.among.1 - l.fn.among.0) ≡ first_path file l.cache (key_order file l.cache l.name) l.index (l.fn.among.1 - l.index));
}
