-- Each name before this one is allowed.
use Rattle.std.proofs.Common.{length, ℕ, ◌-◌, ◌<◌, ◌≤◌}
use Rattle.elf_capi.specs.Asked.{IsLendableNameAt}
use Rattle.elf_capi.proofs.name_list.may_choose.Given as goal

abbrev pub invariant-loop-i : goal.invariant-loop-i
invariant-loop-i l = record {
  within : l.i ≤ length l.names;
  stand : (k : ℕ) → k < l.i → IsLendableNameAt l.fn.versions l.names k;
}

abbrev pub decreases-loop-i : goal.decreases-loop-i
decreases-loop-i l = length l.names - l.i
