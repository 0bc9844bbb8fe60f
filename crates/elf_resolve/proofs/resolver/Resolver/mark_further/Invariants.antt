use Rattle.std.proofs.Common.{◌≡◌, ◌≤◌, List, ℕ, length}
use Rattle.elf_resolve.specs.KeyChains.{IsListFrom, first_number}
use Rattle.elf_resolve.specs.MarkedRows.{further_row}
use Rattle.elf_resolve.proofs.MarkedRowLaws.{IsListMarked}
use Rattle.elf_resolve.proofs.resolver.Resolver.mark_further.Given as goal

-- nothing changes but the marks, and those of the rows up to the next place are set
abbrev pub invariant-loop-turn : goal.invariant-loop-turn
invariant-loop-turn l = record {
  same : l.self ≡ record l.initial.self { problems = l.self.problems };
  marks : (places : List ℕ) → IsListFrom l.initial.self.further (first_number l.initial.self.further l.key) places → length places ≤ l.initial.self.further.numbers
      → IsListMarked l.initial.self.further l.initial.self.link.rows (further_row l.initial.self.link.keys.keys.further) places l.next l._turn l.initial.self.problems.items l.self.problems.items;
}
