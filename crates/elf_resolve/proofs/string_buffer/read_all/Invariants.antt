use Rattle.std.proofs.Common.{◌≡◌, ℕ, ◌+◌, ◌-◌, ◌<◌, ◌≤◌, List, length, take, Some}
use Rattle.elf_model.specs.Bytes.{slice}
use Rattle.elf_source.specs.Prelude.{KeepsSource}
use Rattle.elf_resolve.proofs.string_buffer.read_all.Given as goal

abbrev pub invariant-loop-done : goal.invariant-loop-done
invariant-loop-done g l = record {
  in_range : l.done ≤ length l.out;
  keeps : KeepsSource l.initial.src.seen l.src.seen;
  most : l.src.most ≡ l.initial.src.most;
  reads : (file : List ℕ) → l.initial.src.seen.file ≡ Some file → (0 < l.done → l.at + l.done ≤ length file) × (take l.done l.out ≡ slice file l.at l.done);
}

abbrev pub decreases-loop-done : goal.decreases-loop-done
decreases-loop-done g l = length l.initial.out - l.done
