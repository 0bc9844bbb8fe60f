use Rattle.std.proofs.Common.{◌≤◌, length}
use Rattle.elf_resolve.proofs.KeyListLaws.{AreListedFrom}
use Rattle.elf_resolve.proofs.entry_chains.list_entries.Given as goal

abbrev pub invariant-loop-place : goal.invariant-loop-place
invariant-loop-place l = (l.place ≤ length l.entries) × AreListedFrom l.initial.offers l.offers l.place l.entries

abbrev pub decreases-loop-place : goal.decreases-loop-place
decreases-loop-place l = l.place
