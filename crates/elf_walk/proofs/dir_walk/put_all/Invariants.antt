-- Each entry before the place is put, or counted, or is `.` or `..`.
use Rattle.std.proofs.Common.{◌≡◌, ◌-◌, length}
use Rattle.elf_walk.proofs.GatherLaws.{PutSoFar}
use Rattle.elf_walk.proofs.dir_walk.put_all.Given as goal

abbrev pub decreases-loop-at : goal.decreases-loop-at
decreases-loop-at l = length l.names - l.at

abbrev pub invariant-loop-at : goal.invariant-loop-at
invariant-loop-at l = record {
  put : PutSoFar l.names l.at l.unnamed l.fn.batch l.batch;
  after : l.batch.after ≡ l.fn.batch.after;
}
