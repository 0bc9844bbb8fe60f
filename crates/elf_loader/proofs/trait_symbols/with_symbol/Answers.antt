-- A name that adds no trait and has no fault is not read.
use Rattle.std.proofs.Common.{◌≡◌, ◌==◌, ℕ, length, subst, arith}
use Rattle.elf_model.specs.Prelude.{st_shndx}
use Rattle.elf_model.proofs.Slices.{slice-size}
use Rattle.elf_table.specs.Prelude.{strings_in}
use Rattle.elf_loader.specs.Marks.{AddsNone, symbol_traits_of}
use Rattle.elf_loader.proofs.MarkLaws.{with_none}
use Rattle.elf_loader.proofs.trait_symbols.with_symbol.Goals as goal

pub returns-then-has_no_fault-clause-tells : goal.returns-then-has_no_fault-clause-tells
returns-then-has_no_fault-clause-tells g c = λ file h ahead bytes.
    let names = c.args.names in
    let at = c.args.row.now.at in
    let symbol = c.symbol_in-symbol.ensures file at bytes in
    let inside = c.has_no_fault.ensures c.if-has_no_fault.true in
    let ends = c.requires.names (omega (arith, inside)) in
    let sized = c.args.src.now.seen.sized file h in
    let long : length (strings_in file names) ≡ names.size = slice-size file names.at names.size (omega (arith, sized, ends)) in
    let adds : AddsNone (symbol_traits_of c.args.marks) (st_shndx file at == 0) =
    subst (λ (n : ℕ). AddsNone (symbol_traits_of c.args.marks) (n == 0)) symbol.st_shndx (c.adds_none.ensures c.if-adds_none.true) in
    with_none file (strings_in file names) at c.args.marks (let off = c.from-off.ensures in omega (arith, inside, long, off, symbol.st_name)) adds
