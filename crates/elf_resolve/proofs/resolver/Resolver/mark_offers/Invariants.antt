use Rattle.std.proofs.Common.{◌≡◌, ◌/◌, ◌≤◌, List, ℕ, length}
use Rattle.elf_resolve.specs.EntryRows.{AreConsecutive, row_with_entry}
use Rattle.elf_resolve.specs.KeyChains.{IsListFrom, first_number}
use Rattle.elf_resolve.proofs.MarkedRowLaws.{IsListMarked}
use Rattle.elf_resolve.proofs.resolver.Resolver.mark_offers.Given as goal

-- nothing changes but the marks, and those of the rows up to the next number are set
abbrev pub invariant-loop-turn : goal.invariant-loop-turn
invariant-loop-turn l = record {
  same : l.self ≡ record l.initial.self { problems = l.self.problems };
  marks : (from count : ℕ) (numbers : List ℕ) → AreConsecutive from l.initial.self.tables.archives.items count
      → IsListFrom l.initial.self.offers (first_number l.initial.self.offers l.key) numbers → length numbers ≤ l.initial.self.offers.numbers
      → IsListMarked l.initial.self.offers l.initial.self.link.rows (λ n. row_with_entry l.initial.self.tables.archives.items (n / 2)) numbers l.next l._turn l.initial.self.problems.items l.self.problems.items;
}
