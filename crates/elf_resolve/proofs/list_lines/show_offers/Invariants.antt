use Rattle.std.proofs.Common.{◌≤◌, List, ℕ, length}
use Rattle.elf_resolve.specs.EntryRows.{AreConsecutive}
use Rattle.elf_resolve.specs.KeyChains.{IsListFrom, first_number}
use Rattle.elf_resolve.specs.KeyLines.{line_of_number}
use Rattle.elf_resolve.specs.LinkTexts.{IsListShown}
use Rattle.elf_resolve.proofs.list_lines.show_offers.Given as goal

abbrev pub invariant-loop-turn : goal.invariant-loop-turn
invariant-loop-turn g l = (from count : ℕ) (numbers : List ℕ)
    → AreConsecutive from l.link.tables.archives.items count
    → IsListFrom l.link.offers (first_number l.link.offers l.key) numbers
    → length numbers ≤ l.link.offers.numbers
    → IsListShown l.link.offers (line_of_number g.R.Render.FORMAT l.link.tables.archives.items l.link.tables.entries.items l.name) numbers l.next l._turn l.initial.out l.out
