-- What was written so far is the prefix of what is copied.
use Rattle.std.proofs.Common.{◌≡◌, ℕ, ◌+◌, ◌-◌, ◌^◌, ◌≤◌, List, length, take, min, Some}
use Rattle.elf_model.specs.Bytes.{slice}
use Rattle.elf_source.specs.Prelude.{OutGrows, ReadsUpTo, SinkTakes}
use Rattle.elf_reloc.proofs.in_order.copy.Given as goal

abbrev pub invariant-pages : goal.invariant-pages
invariant-pages g l = record {
  within : l.done ≤ l.size;
  reads : ReadsUpTo l.fn.src l.src l.size;
  asked : l.src.asked ≤ l.fn.src.asked + l.done;
  grows : OutGrows l.fn.out l.out;
  wrote : l.out.written ≡ min (l.fn.out.written + l.done) (2 ^ 128 - 1);
  text : (file : List ℕ) → l.fn.src.seen.file ≡ Some file → l.at + l.size ≤ length file
      → SinkTakes l.fn.out l.out (take l.done (slice file l.at l.size));
}

abbrev pub decreases-pages : goal.decreases-pages
decreases-pages g l = l.size - l.done
