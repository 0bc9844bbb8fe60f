-- What was written, and the bytes that are left, are the text at each turn.
use Rattle.std.proofs.Common.{drop}
use Rattle.elf_format.specs.Pieces.{TakesBefore}
use Rattle.elf_cli.specs.Marked.{bytes_beside}
use Rattle.elf_cli.proofs.program_arguments.show_marked.Given as goal

abbrev pub invariant-loop-i : goal.invariant-loop-i
invariant-loop-i g l = TakesBefore l.fn.out l.out (bytes_beside l.text l.marked) (bytes_beside (drop l.i l.text) (drop l.i l.marked))
