-- What was written so far is the prefix of the section.
use Rattle.std.proofs.Common.{◌≡◌, ℕ, ◌+◌, ◌-◌, ◌*◌, ◌^◌, ◌≤◌, List, take, min, Some, Ok}
use Rattle.elf_model.specs.Prelude.{AllInside, patched, patches_of, slice}
use Rattle.elf_source.specs.Prelude.{OutGrows, ReadsUpTo, SinkTakes}
use Rattle.elf_reloc.specs.Prelude.{changes_all, walk_all, windows}
use Rattle.elf_reloc.proofs.windows.write_by_windows.Given as goal

abbrev pub invariant-windows : goal.invariant-windows
invariant-windows g l = record {
  sized : l.size ≡ l.target.size;
  within : l.done ≤ l.size;
  reads : ReadsUpTo l.fn.src l.src (windows l.size * walk_all l.target + l.size);
  asked : l.src.asked + (windows (l.size - l.done) * walk_all l.target + (l.size - l.done)) ≤ l.fn.src.asked + (windows l.size * walk_all l.target + l.size);
  grows : OutGrows l.fn.out l.out;
  wrote : l.out.written ≡ min (l.fn.out.written + l.done) (2 ^ 128 - 1);
  text : (file : List ℕ) → l.fn.src.seen.file ≡ Some file → (patches : List _) → patches_of (changes_all file l.target) ≡ Ok patches → AllInside l.target.size patches
      → SinkTakes l.fn.out l.out (take l.done (patched patches (slice file l.at l.target.size)));
}

abbrev pub decreases-windows : goal.decreases-windows
decreases-windows g l = l.size - l.done
