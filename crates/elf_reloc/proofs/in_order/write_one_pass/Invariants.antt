-- What was written so far is the prefix of the section, and what is held the part after it.
use Rattle.std.proofs.Common.{◌≡◌, ℕ, ◌+◌, ◌-◌, ◌^◌, ◌≤◌, List, min, Some, Ok}
use Rattle.elf_model.specs.Prelude.{AllInside, StoredBytes, patched, patches_of, slice}
use Rattle.elf_source.specs.Prelude.{OutGrows, ReadsUpTo}
use Rattle.elf_reloc.specs.Prelude.{IsWalkAlive, OffsetsAscend, ReadsEntries, UnderWay, changes_all, changes_left, end_of, steps_left, walk_all, walk_left}
use Rattle.elf_reloc.proofs.in_order.write_one_pass.Given as goal

abbrev pub invariant-entries : goal.invariant-entries
invariant-entries g l = record {
  sized : l.size ≡ l.target.size;
  within : end_of l.held ≤ l.size;
  reads_most : ReadsUpTo l.fn.src l.src (walk_all l.target + l.size);
  asked : l.src.asked + (walk_left l.target l.entries + (l.size - end_of l.held)) ≤ l.fn.src.asked + (walk_all l.target + l.size);
  grows : OutGrows l.fn.out l.out;
  wrote : l.out.written ≡ min (l.fn.out.written + l.held.low) (2 ^ 128 - 1);
  still : IsWalkAlive l.fn.src.seen.size l.target l.entries;
  reads : (file : List ℕ) → l.fn.src.seen.file ≡ Some file → ReadsEntries file l.target l.entries;
  left : (file : List ℕ) → l.fn.src.seen.file ≡ Some file → (patches : List StoredBytes) → patches_of (changes_all file l.target) ≡ Ok patches → AllInside l.size patches → OffsetsAscend 0 patches
      → UnderWay (slice file l.at l.size) (patched patches (slice file l.at l.size)) l.held (changes_left file l.target l.entries)
      l.fn.out l.out;
}

abbrev pub decreases-entries : goal.decreases-entries
decreases-entries g l = steps_left l.target l.entries
