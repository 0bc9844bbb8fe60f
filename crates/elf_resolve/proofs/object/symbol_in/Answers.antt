-- The symbol of an index is that of the file whose table the bytes are.
use Rattle.std.proofs.Common.{◌+◌, ◌*◌, arith}
use Rattle.elf_resolve.proofs.ObjectSymbolLaws.{row_in}
use Rattle.elf_resolve.proofs.object.symbol_in.Goals as goal

pub returns-in-Some-clause-is : goal.returns-in-Some-clause-is
returns-in-Some-clause-is c = λ file at whole.
    c.decode.ensures.is_at file (at + 24 * c.args.index)
    (row_in file c.args.rows.now c.part_of.result.now c.in-Some.row.now at c.args.index c.saturating_mul-start.result whole c.part_of.ensures.fits (omega (arith, c.saturating_mul-start.ensures))
    c.part_of.ensures.held c.part_of.ensures.none c.in-Some.ensures.cases.enough c.in-Some.ensures.cases.same)
