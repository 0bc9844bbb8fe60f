-- No line ends after the place reached.
use Rattle.std.proofs.Common.{◌≤◌, length}
use Rattle.elf_cli.specs.Lines.{NoLineFrom}
use Rattle.elf_cli.proofs.line_sink.whole_lines.Given as goal

abbrev pub invariant-loop-end : goal.invariant-loop-end
invariant-loop-end l = record {
  within : l.end ≤ length l.bytes;
  none : NoLineFrom l.end l.bytes;
}

abbrev pub decreases-loop-end : goal.decreases-loop-end
decreases-loop-end l = l.end
