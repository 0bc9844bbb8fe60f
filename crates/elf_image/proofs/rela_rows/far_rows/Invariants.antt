-- The entries so far cannot store into the window.
use Rattle.std.proofs.Common.{◌-◌, ◌≤◌}
use Rattle.elf_image.specs.RelaRows.{AreFarRows}
use Rattle.elf_image.proofs.rela_rows.far_rows.Given as goal

abbrev pub invariant-loop-rows : goal.invariant-loop-rows
invariant-loop-rows l = record {
  few : l.rows ≤ l.count;
  far : AreFarRows l.bytes l.reach l.rows;
}

abbrev pub decreases-loop-rows : goal.decreases-loop-rows
decreases-loop-rows l = l.count - l.rows
