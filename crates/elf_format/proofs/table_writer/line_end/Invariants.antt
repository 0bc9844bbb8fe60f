-- No line ends before the place reached.
use Rattle.std.proofs.Common.{◌+◌, ◌<◌, ◌-◌, length}
use Rattle.elf_format.specs.TableWriters.{HasNoInnerNewline}
use Rattle.elf_format.proofs.table_writer.line_end.Given as goal

abbrev pub invariant-loop-end : goal.invariant-loop-end
invariant-loop-end l = record {
  within : l.end < length l.bytes;
  one : HasNoInnerNewline l.bytes (l.end + 1);
}

abbrev pub decreases-loop-end : goal.decreases-loop-end
decreases-loop-end l = length l.bytes - l.end
