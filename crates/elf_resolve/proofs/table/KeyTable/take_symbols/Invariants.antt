use Rattle.std.proofs.Common.{map, take}
use Rattle.elf_resolve.specs.Symbols.{TookSymbols, symbol_record}
use Rattle.elf_resolve.proofs.table.KeyTable.take_symbols.Given as goal

abbrev pub invariant-loop-i : goal.invariant-loop-i
invariant-loop-i l = TookSymbols l.initial.self l.self (take l.i (map symbol_record l.symbols)) l.row
