use Rattle.std.proofs.Common.{length, ◌≡◌, ◌-◌, ◌≤◌, take}
use Rattle.std.specs.Io.KnownBytes.{Appends}
use Rattle.elf_source.proofs.output.give.Given as goal

abbrev pub invariant-loop-done : goal.invariant-loop-done
invariant-loop-done g l = record {
  within : l.done ≤ length l.bytes;
  bytes : Appends (g.W.Sink.taken l.fn.sink) (g.W.Sink.taken l.sink) (take l.done l.bytes);
  still : l.done ≡ 0 → g.W.Sink.held l.sink ≡ g.W.Sink.held l.fn.sink;
  room : g.W.Sink.room l.sink ≡ g.W.Sink.room l.fn.sink;
}

abbrev pub decreases-loop-done : goal.decreases-loop-done
decreases-loop-done g l = length l.bytes - l.done
