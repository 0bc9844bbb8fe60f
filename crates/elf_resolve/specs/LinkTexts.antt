-- What is written of a text of several lines.
use Rattle.std.specs.Prelude.{◌≡◌, ℕ, ◌+◌, ◌≤◌, List, ◌++◌, length, map, Option, Result, Ok, Err}
use Rattle.std.specs.List.{concat}
use Rattle.elf_resolve.specs.KeyChains.{ChainTable, IsListFrom}
use Rattle.elf_source.specs.Output.{IsOutFault, OutState, SinkTakes, SinkTakesPrefix}
use Rattle.elf_source.specs.declared.faults.OutFault.{OutFault}

-- A TEXT WRITTEN, or at a fault of the output a prefix of it
abbrev pub WritesText : {X : Type 0} → OutState → OutState → Result X OutFault → List ℕ → Type 0
WritesText old new (Ok x) text = SinkTakes old new text
WritesText old new (Err fault) text = SinkTakesPrefix old new text × IsOutFault new fault

-- THE LINES of a list's numbers are written up to one, after so many turns
pub record IsListShown (chains : ChainTable) (line : ℕ → List ℕ) (numbers : List ℕ) (next : Option ℕ) (turns : ℕ) (old new : OutState) : Type 0 where
  pub left : List ℕ
  pub done : List ℕ
  pub follows : IsListFrom chains next left
  pub fits : turns + length left ≤ chains.numbers
  pub split : concat (map line numbers) ≡ done ++ concat (map line left)
  pub takes : SinkTakes old new done
