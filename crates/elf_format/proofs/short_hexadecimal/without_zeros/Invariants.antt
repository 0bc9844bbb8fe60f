use Rattle.std.proofs.Common.{◌≡◌, ◌≤◌, ◌-◌, drop, length}
use Rattle.elf_model.specs.Text.{without_zeros}
use Rattle.elf_format.proofs.short_hexadecimal.without_zeros.Given as goal

-- what is left has the same digits as all
abbrev pub invariant-loop-from : goal.invariant-loop-from
invariant-loop-from l = record {
  within : l.from ≤ length l.digits;
  same : without_zeros (drop l.from l.digits) ≡ without_zeros l.digits;
}

abbrev pub decreases-loop-from : goal.decreases-loop-from
decreases-loop-from l = length l.digits - l.from
