use Rattle.std.proofs.Common.{◌≡◌, ◌≤◌, length, take}
use Rattle.elf_model.specs.Archive.{trimmed}
use Rattle.elf_archive.proofs.fields.trimmed_length.Given as goal

abbrev pub invariant-loop-end : goal.invariant-loop-end
invariant-loop-end l = record {
  within : l.end ≤ length l.bytes;
  same : trimmed l.fn.byte (take l.end l.bytes) ≡ trimmed l.fn.byte l.bytes;
}

abbrev pub decreases-loop-end : goal.decreases-loop-end
decreases-loop-end l = l.end
