use Rattle.std.proofs.Common.{◌≡◌, ◌-◌, List, ℕ}
use Rattle.elf_model.specs.LinkPasses.{index_name}
use Rattle.elf_model.specs.LinkSymbols.{defines_from}
use Rattle.elf_resolve.specs.ObjectTables.{HoldsSymbols}
use Rattle.elf_resolve.proofs.members.is_first_definition.Given as goal

abbrev pub invariant-loop-index : goal.invariant-loop-index
invariant-loop-index l = (file : List ℕ) (table_at : ℕ) → HoldsSymbols file l.strings.bytes table_at l.symbols
    → defines_from file table_at l.symbols.first (l.symbols.count - l.symbols.first) (index_name l.keys.keys l.entry) ≡ defines_from file table_at l.index (l.symbols.count - l.index) (index_name l.keys.keys l.entry)
