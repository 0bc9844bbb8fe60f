-- A number of 32 bits has at most ten digits.
use Rattle.std.proofs.Common.{arith}
use Rattle.elf_format.proofs.Decimals.{ten_digits}
use Rattle.elf_format.proofs.fields.put_index.Goals as goal

pub put_right-requires-clause-room : goal.put_right-requires-clause-room
put_right-requires-clause-room g c =
    let few = ten_digits c.args.index c.ranges.index.fits in
    rw c.from-in-Table.ensures (omega (arith, few, c.requires.room, c.requires.width))

pub returns-in-Table-clause-len : goal.returns-in-Table-clause-len
returns-in-Table-clause-len g c =
    let few = ten_digits c.args.index c.ranges.index.fits in
    let len = rw c.from-in-Table.ensures at c.put_right.ensures.len in omega (arith, few, len, c.requires.width)
