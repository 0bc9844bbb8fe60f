-- The entries that are left can be read, and there is room for as many.
use Rattle.std.proofs.Common.{length, ◌-◌, ◌≤◌}
use Rattle.elf_image.specs.Missing.{IsAliveIn}
use Rattle.elf_capi.proofs.lacking.write_rows.Given as goal

abbrev pub invariant-rows : goal.invariant-rows
invariant-rows l = record {
  alive : IsAliveIn l.src.seen.size l.missing;
  few : l.count ≤ length l.out;
}

abbrev pub decreases-rows : goal.decreases-rows
decreases-rows l = length l.initial.out - l.count
