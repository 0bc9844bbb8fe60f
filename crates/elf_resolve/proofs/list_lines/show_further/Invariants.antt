use Rattle.std.proofs.Common.{◌≤◌, List, ℕ, length}
use Rattle.elf_resolve.specs.KeyChains.{IsListFrom, first_number}
use Rattle.elf_resolve.specs.KeyLines.{line_of_further}
use Rattle.elf_resolve.specs.LinkTexts.{IsListShown}
use Rattle.elf_resolve.proofs.list_lines.show_further.Given as goal

abbrev pub invariant-loop-turn : goal.invariant-loop-turn
invariant-loop-turn g l = (places : List ℕ)
    → IsListFrom l.link.further (first_number l.link.further l.key) places
    → length places ≤ l.link.further.numbers
    → IsListShown l.link.further (line_of_further g.R.Render.FORMAT l.link.link.keys.keys.further l.name) places l.next l._turn l.initial.out l.out
