-- What was written so far, with what is left of the text, is the whole.
use Rattle.std.proofs.Common.{length, drop, ◌-◌, ◌≤◌}
use Rattle.elf_needs.specs.Searching.{expanded}
use Rattle.elf_needs.proofs.TokenLaws.{IsWalkAlive}
use Rattle.elf_needs.proofs.paths.put_expanded.Given as goal

abbrev pub invariant-loop-at : goal.invariant-loop-at
invariant-loop-at l =
    (l.at ≤ length l.text)
    × IsWalkAlive l.initial.path.items l.path.items (expanded l.origin 0 l.text) (expanded l.origin 0 (drop l.at l.text))

abbrev pub decreases-loop-at : goal.decreases-loop-at
decreases-loop-at l = length l.text - l.at
