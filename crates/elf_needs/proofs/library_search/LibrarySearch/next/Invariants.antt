-- The paths that are left of a text, and those of the texts after it, are those that there were,
-- and no more may be tried.
use Rattle.std.proofs.Common.{◌≡◌, ◌≤◌, ◌++◌, ◌-◌, length, drop}
use Rattle.elf_needs.specs.Prelude.{dirs_in, searched_paths}
use Rattle.elf_needs.proofs.library_search.LibrarySearch.next.Given as goal

abbrev pub invariant-loop-self : goal.invariant-loop-self
invariant-loop-self l = record {
  paths : l.fn.self ≡ l.self-inside.tries ++ searched_paths l.self-inside.root.now l.self-inside.name.now (dirs_in (drop l.self-inside.at l.self-inside.lists.now));
  few : l.tries.left ≤ l.fn.tries.left;
}

abbrev pub decreases-loop-self : goal.decreases-loop-self
decreases-loop-self l = length l.self-inside.lists.now - l.self-inside.at
