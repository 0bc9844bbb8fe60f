-- What was read so far is the file's.
use Rattle.std.proofs.Common.{◌≡◌, ◌+◌, ◌-◌, ◌≤◌, ◌<◌, ℕ, List, Some, length, take, drop}
use Rattle.elf_source.specs.Reader.{Turns}
use Rattle.elf_source.proofs.stream_source.read_all.Given as goal

abbrev pub invariant-loop-got : goal.invariant-loop-got
invariant-loop-got g l = record {
  within : l.got ≤ length l.out;
  few : l.interrupted < 64;
  same : g.R.ReadAt.file l.reader ≡ g.R.ReadAt.file l.fn.reader;
  counted : g.R.ReadAt.interrupted l.reader ≤ g.R.ReadAt.interrupted l.fn.reader + l.interrupted;
  turned : Turns g.R.ReadAt.one_turn l.fn.reader l.reader l.at (l.at + l.got) (l.at + length l.fn.out) (l.got + l.interrupted);
  filled : (file : List ℕ) → g.R.ReadAt.file l.fn.reader ≡ Some file → take l.got l.out ≡ take l.got (drop l.at file);
}

abbrev pub decreases-loop-got : goal.decreases-loop-got
decreases-loop-got g l = (length l.initial.out - l.got) + (64 - l.interrupted)
