-- Nothing was yielded so far.
use Rattle.std.proofs.Common.{◌≡◌, ℕ, ◌+◌, ◌≤◌, List, Some}
use Rattle.elf_reloc.specs.Walk.{AsksOf, IsWalkAlive, ReadsEntries, changes_left, entries_from, steps_left}
use Rattle.elf_reloc.proofs.walk.RelocationWalk.next.Given as goal

abbrev pub invariant-steps : goal.invariant-steps
invariant-steps g l = record {
  asks : AsksOf l.fn.src l.src l.target l.fn.self l.self;
  still : IsWalkAlive l.fn.src.seen.size l.target l.self;
  fewer : steps_left l.target l.self ≤ steps_left l.target l.fn.self;
  counts : l.self.count + entries_from l.target l.self.next ≡ l.fn.self.count + entries_from l.target l.fn.self.next;
  reads : (file : List ℕ) → l.fn.src.seen.file ≡ Some file → ReadsEntries file l.target l.fn.self
      → (changes_left file l.target l.fn.self ≡ changes_left file l.target l.self) × ReadsEntries file l.target l.self;
}

abbrev pub decreases-steps : goal.decreases-steps
decreases-steps g l = steps_left l.target l.self
