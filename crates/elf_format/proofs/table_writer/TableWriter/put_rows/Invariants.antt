-- What was written, and the rows after it, are what the bytes so far become.
use Rattle.std.proofs.Common.{◌≡◌, ◌≤◌, ◌-◌, true, [], length, take}
use Rattle.elf_format.specs.TableWriters.{Renders, with_rows}
use Rattle.elf_format.proofs.table_writer.TableWriter.put_rows.Given as goal

abbrev pub invariant-loop-done : goal.invariant-loop-done
invariant-loop-done g l = record {
  within : l.done ≤ length l.bytes;
  kind : l.self.is_table ≡ true;
  renders : Renders (with_rows l.fn.self []) (with_rows l.self l.rows.items) (take l.done l.bytes);
}

abbrev pub decreases-loop-done : goal.decreases-loop-done
decreases-loop-done g l = length l.bytes - l.done
