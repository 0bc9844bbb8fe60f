use Rattle.std.proofs.Common.{◌≤◌, length}
use Rattle.elf_resolve.proofs.KeyListLaws.{AreFurtherListed}
use Rattle.elf_resolve.proofs.entry_chains.list_further.Given as goal

abbrev pub invariant-loop-place : goal.invariant-loop-place
invariant-loop-place l = (l.place ≤ length l.further) × AreFurtherListed l.initial.chains l.chains l.place l.further

abbrev pub decreases-loop-place : goal.decreases-loop-place
decreases-loop-place l = l.place
