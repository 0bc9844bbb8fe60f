-- Each of the lines so far has given an item.
use Rattle.std.proofs.Common.{◌≡◌, length, map}
use Rattle.elf_layout.specs.Listed.{GiveItems}
use Rattle.elf_layout.proofs.items.Items.push_lines.Given as goal

abbrev pub invariant-loop-line : goal.invariant-loop-line
invariant-loop-line l = record {
  number : l.number ≡ length l.yielded;
  given : GiveItems (map (λ line. line.now) l.yielded) l.fn.self l.self;
}
