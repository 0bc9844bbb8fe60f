-- The number's digits end where the spaces of the cell did, and the byte follows them.
use Rattle.std.proofs.Common.{arith}
use Rattle.elf_format.proofs.Decimals.{cell_text, twenty_digits}
use Rattle.elf_format.proofs.columns.write_cell.Goals as goal

pub write_digits-start-requires : goal.write_digits-start-requires
write_digits-start-requires c = (twenty_digits c.args.number c.ranges.number.fits, omega arith)

pub returns-clause-text : goal.returns-clause-text
returns-clause-text c =
    let write = c.write_digits-start in
    cell_text write.new.buf write.result c.args.number c.args.end write.ensures.start (rw c.requires at write.ensures.before) (rw c.requires at write.ensures.written)
