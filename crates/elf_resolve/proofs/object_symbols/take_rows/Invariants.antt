use Rattle.std.proofs.Common.{◌≡◌, List, ℕ}
use Rattle.elf_resolve.specs.ObjectSymbols.{TookRows}
use Rattle.elf_resolve.specs.ObjectTables.{HoldsSymbols}
use Rattle.elf_resolve.specs.SectionMarks.{MarksDropped}
use Rattle.elf_resolve.proofs.object_symbols.take_rows.Given as goal

abbrev pub invariant-loop-index : goal.invariant-loop-index
invariant-loop-index l = record {
  same : l.strings ≡ l.initial.strings;
  takes : (file : List ℕ) (table_at count : ℕ) (dropped : List ℕ) → HoldsSymbols file l.initial.strings.bytes table_at l.symbols → MarksDropped count l.sections dropped
      → TookRows file table_at l.symbols.first l.index l.symbols.count dropped l.initial.keys l.keys l.row;
}
