use Rattle.std.proofs.lemmas.Result.{err_from_is_err_and}
use Rattle.elf_resolve.proofs.SymbolLaws.{took_more, took_not}
use Rattle.elf_resolve.proofs.table.KeyTable.take_symbols.Goals as goal

pub loop-i-preserved : goal.loop-i-preserved
loop-i-preserved c = took_more _ _ _ c.args.symbols.now c.args.row c.loop-i.i _ c.loop-i-test.true c.loop-i.invariant c.in_ok-take.ensures

pub returns-in_err-take : goal.returns-in_err-take
returns-in_err-take c =
    let p = err_from_is_err_and c.from_residual.result c.from_residual.ensures.1 in
    rw (p.1, p.2) (took_not _ _ _ c.args.symbols.now c.args.row c.loop-i.i _ _ c.loop-i-test.true c.loop-i.invariant c.in_err-take.ensures)
