-- Whether the path is below one of all directories is whether it is below one of those that are left.
use Rattle.std.proofs.Common.{◌≡◌}
use Rattle.elf_needs.specs.Prelude.{COLON, is_below_any, is_below_default, left_bytes, left_entries}
use Rattle.elf_needs.proofs.system_dirs.is_below_default.Given as goal

abbrev pub invariant-loop-left : goal.invariant-loop-left
invariant-loop-left l = is_below_default l.default l.path ≡ is_below_any (left_entries COLON l.left) l.path

abbrev pub decreases-loop-left : goal.decreases-loop-left
decreases-loop-left l = left_bytes l.left
