use Rattle.std.proofs.Common.{◌≡◌, ◌+◌, ◌≤◌}
use Rattle.elf_source.proofs.stream_source.find_end.Given as goal

abbrev pub invariant-loop-turn : goal.invariant-loop-turn
invariant-loop-turn g l = record {
  same : g.R.ReadAt.file l.reader ≡ g.R.ReadAt.file l.fn.reader;
  few : g.R.ReadAt.interrupted l.reader ≤ g.R.ReadAt.interrupted l.fn.reader + l._turn;
}
