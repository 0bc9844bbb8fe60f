-- The digits up to here are the run.
use Rattle.std.proofs.Common.{◌≡◌, ◌-◌, ◌≤◌, None, Some, length, drop}
use Rattle.elf_model.specs.LoaderCache.{name_ranks}
use Rattle.elf_library.proofs.cache_names.digits.Given as goal

abbrev pub invariant-loop-count : goal.invariant-loop-count
invariant-loop-count l = record {
  in_range : l.count ≤ length l.name;
  same : name_ranks None l.name ≡ name_ranks (Some l.number) (drop l.count l.name);
}

abbrev pub decreases-loop-count : goal.decreases-loop-count
decreases-loop-count l = length l.name - l.count
