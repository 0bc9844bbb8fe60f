use Rattle.std.proofs.Common.{◌-◌, ◌≡◌, ◌+◌, ◌*◌, ◌<◌, ◌≤◌, ℕ, length, slice_index_or}
use Rattle.elf_capi.proofs.table_row.read_rows.Given as goal

abbrev pub invariant-loop-done : goal.invariant-loop-done
invariant-loop-done g l =
    (l.done ≤ l.count) × (length l.out ≡ length l.fn.out)
    × ((k : ℕ) (none : g.row.R.Denot) → k < l.done → g.R.TableRow.is_at l.file (l.first + g.R.TableRow.BYTES * k) (slice_index_or l.out k none))

abbrev pub decreases-loop-done : goal.decreases-loop-done
decreases-loop-done g l = l.count - l.done
