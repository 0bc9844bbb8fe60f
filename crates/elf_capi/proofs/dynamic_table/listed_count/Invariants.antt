use Rattle.std.proofs.Common.{◌-◌, ◌+◌, ◌*◌, ◌<◌, ◌≤◌, ℕ, ◌≢◌}
use Rattle.elf_model.specs.Prelude.{DT_NULL, d_tag}
use Rattle.elf_capi.proofs.dynamic_table.listed_count.Given as goal

abbrev pub invariant-loop-done : goal.invariant-loop-done
invariant-loop-done l = (l.done ≤ l.count) × (l.done ≤ l.most) × ((i : ℕ) → i < l.done → d_tag l.file (l.at + 16 * i) ≢ DT_NULL)

abbrev pub decreases-loop-done : goal.decreases-loop-done
decreases-loop-done l = l.count - l.done
