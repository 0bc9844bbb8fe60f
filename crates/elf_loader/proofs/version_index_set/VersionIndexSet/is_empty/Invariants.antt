-- None of the version indices before this one is in the set.
use Rattle.std.proofs.Common.{◌≡◌, ℕ, ◌<◌, ◌≤◌, false}
use Rattle.elf_model.specs.Versions.{VERSION_NUMBERS}
use Rattle.elf_loader.specs.NumberSets.{has_number}
use Rattle.elf_loader.proofs.version_index_set.VersionIndexSet.is_empty.Given as goal

abbrev pub invariant-loop-number : goal.invariant-loop-number
invariant-loop-number l = record {
  none : (number : ℕ) → number < l.number → has_number l.self number ≡ false;
  within : l.number ≤ VERSION_NUMBERS;
}
