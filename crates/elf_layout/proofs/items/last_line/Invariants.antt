-- The last of the lines so far that has such an item.
use Rattle.std.proofs.Common.{◌≡◌, length, map}
use Rattle.elf_layout.specs.Listed.{IsLastAlike}
use Rattle.elf_layout.proofs.items.last_line.Given as goal

abbrev pub invariant-loop-line : goal.invariant-loop-line
invariant-loop-line l = record {
  number : l.number ≡ length l.yielded;
  last : IsLastAlike (map (λ line. line.now) l.yielded) l.wanted l.last;
}
