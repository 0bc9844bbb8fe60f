-- A number of 64 bits has at most twenty digits.
use Rattle.std.proofs.Common.{arith}
use Rattle.elf_format.proofs.Decimals.{twenty_digits}
use Rattle.elf_format.proofs.fields.put_decimal.Goals as goal

pub put_right-requires-clause-room : goal.put_right-requires-clause-room
put_right-requires-clause-room g c =
    let few = twenty_digits c.args.number c.ranges.number.fits in omega (arith, few, c.requires.room, c.requires.width)

pub returns-in-Columns-clause-len : goal.returns-in-Columns-clause-len
returns-in-Columns-clause-len g c =
    let few = twenty_digits c.args.number c.ranges.number.fits in omega (arith, few, c.put_right.ensures.len, c.requires.width)
