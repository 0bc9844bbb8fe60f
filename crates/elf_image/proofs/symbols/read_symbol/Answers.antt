-- The symbol is read where the table has it.
use Rattle.std.proofs.Common.{◌<◌, arith}
use Rattle.elf_table.proofs.LedgerLaws.{CallDid-of}
use Rattle.elf_table.specs.Prelude.{IsReadFault}
use Rattle.elf_image.proofs.SymbolSteps.{stop_says, symbol_reads}
use Rattle.elf_image.proofs.symbols.read_symbol.Goals as goal

pub returns : goal.returns
returns g c =
    let e = c.symbol.ensures in
    CallDid-of e.reads (stop_says (IsReadFault c.args.src.now c.symbol.new.src 24) c.symbol.result e.says) (λ file held header are.
    let located = rw c.in-Some.is at are in
    let low : c.args.index < c.in-Some.table.count = omega (arith, c.if-index-len.false, c.len.ensures, c.from-index.ensures) in
    let same = c.from-index.ensures in
    symbol_reads file header c.args.at c.args.index c.in-Some.table located c.symbol.result low (rw same at e.at) (rw same at (e.read file held)))
