-- The paths that are left are those that there were, and no more may be tried.
use Rattle.std.proofs.Common.{◌≡◌, ◌≤◌}
use Rattle.elf_needs.specs.Prelude.{entry_paths, left_bytes, left_entries, origin_of}
use Rattle.elf_needs.proofs.tries.CandidatePaths.next.Given as goal

abbrev pub invariant-loop-self : goal.invariant-loop-self
invariant-loop-self l = record {
  paths : l.fn.self ≡ entry_paths l.self-inside.root.now l.self-inside.name.now (origin_of l.self-inside.origin) (left_entries l.self-inside.separator l.self-inside.left);
  few : l.tries.left ≤ l.fn.tries.left;
}

abbrev pub decreases-loop-self : goal.decreases-loop-self
decreases-loop-self l = left_bytes l.self-inside.left
