-- The symbols of the first table of an object.
use Rattle.std.proofs.Common.{List, subst}
use Rattle.std.specs.Prelude.{Result}
use Rattle.elf_model.specs.LinkObjects.{ObjectSymbol}
use Rattle.elf_model.specs.Records.{section_at}
use Rattle.elf_model.specs.declared.link_states.LinkRefusal.{LinkRefusal}
use Rattle.elf_resolve.specs.ObjectSymbols.{TakesObjectSymbols}
use Rattle.elf_resolve.specs.ObjectTables.{HoldsObjectSymbols}
use Rattle.elf_resolve.proofs.ObjectSymbolLaws.{first_rows}
use Rattle.elf_resolve.proofs.object_symbols.take_symbols.Goals as goal

pub returns-in-Some : goal.returns-in-Some
returns-in-Some c = λ file count dropped held marks.
    let first = subst (HoldsObjectSymbols file c.args.strings.now.bytes) c.in-Some.is held.symbols in
    subst (λ (known : Result (List ObjectSymbol) LinkRefusal). TakesObjectSymbols dropped known c.args.keys.now c.take_rows.new.keys c.args.row c.take_rows.result)
    (first_rows file c.args.strings.now.bytes c.in-Some.symbols first)
    (c.take_rows.ensures file (section_at file c.in-Some.symbols.section) count dropped first.holds marks)
