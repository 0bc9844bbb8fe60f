use Rattle.std.proofs.Common.{◌≡◌, ◌≤◌, All, length, take, drop}
use Rattle.elf_walk.specs.Stacked.{stacked}
use Rattle.elf_walk.proofs.stack.NameStack.push_first.Given as goal

abbrev pub decreases-loop-left : goal.decreases-loop-left
decreases-loop-left l = l.left

abbrev pub invariant-loop-left : goal.invariant-loop-left
invariant-loop-left l = record {
  within : l.left ≤ l.count;
  stack : l.self ≡ stacked (drop l.left (take l.count l.names)) l.fn.self;
  short : All (λ name. length name ≤ 255) (drop l.left (take l.count l.names));
  stays : take (length l.fn.self) l.self ≡ l.fn.self;
}
