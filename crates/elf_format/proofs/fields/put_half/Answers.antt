-- A number of 16 bits has at most five digits.
use Rattle.std.proofs.Common.{arith}
use Rattle.elf_format.proofs.Decimals.{five_digits}
use Rattle.elf_format.proofs.fields.put_half.Goals as goal

pub put_right-requires-clause-room : goal.put_right-requires-clause-room
put_right-requires-clause-room g c =
    let few = five_digits c.args.number c.ranges.number.fits in rw c.from.ensures (omega (arith, few, c.requires))

pub returns-in-Columns-clause-len : goal.returns-in-Columns-clause-len
returns-in-Columns-clause-len g c =
    let few = five_digits c.args.number c.ranges.number.fits in
    let len = rw c.from.ensures at c.put_right.ensures.len in omega (arith, few, len)
