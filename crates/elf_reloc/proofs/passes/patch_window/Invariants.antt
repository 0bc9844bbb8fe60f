-- What is left has the same result.
use Rattle.std.proofs.Common.{Some, ◌≡◌, ℕ, ◌+◌, ◌≤◌, List, length}
use Rattle.elf_source.specs.Source.{ReadsUpTo}
use Rattle.elf_reloc.specs.Prelude.{IsWalkAlive, ReadsEntries, changes_all, changes_left, folded, steps_left, storing, walk_all, walk_left}
use Rattle.elf_reloc.proofs.passes.patch_window.Given as goal

abbrev pub invariant-entries : goal.invariant-entries
invariant-entries g l = record {
  most : ReadsUpTo l.fn.src l.src (walk_all l.target);
  asked : l.src.asked + walk_left l.target l.entries ≤ l.fn.src.asked + walk_all l.target;
  still : IsWalkAlive l.fn.src.seen.size l.target l.entries;
  reads : (file : List ℕ) → l.fn.src.seen.file ≡ Some file → ReadsEntries file l.target l.entries;
  left : (file : List ℕ) → l.fn.src.seen.file ≡ Some file
      → folded (storing l.low (length l.fn.window)) l.window (changes_left file l.target l.entries) ≡ folded (storing l.low (length l.fn.window)) l.fn.window (changes_all file l.target);
}

abbrev pub decreases-entries : goal.decreases-entries
decreases-entries g l = steps_left l.target l.entries
