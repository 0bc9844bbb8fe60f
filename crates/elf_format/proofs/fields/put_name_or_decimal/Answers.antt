-- A name of at most ten bytes takes no more room in an object, nor does a number in columns.
use Rattle.std.proofs.Common.{arith}
use Rattle.elf_format.proofs.Decimals.{twenty_digits}
use Rattle.elf_format.proofs.fields.put_name_or_decimal.Goals as goal

pub returns-in-Object-clause-len : goal.returns-in-Object-clause-len
returns-in-Object-clause-len g c =
    let most = c.put_name_or_number.ensures.len c.args.width c.requires.short in omega arith

pub put_right-requires-clause-room : goal.put_right-requires-clause-room
put_right-requires-clause-room g c =
    let few = twenty_digits c.args.number c.ranges.number.fits in omega (arith, few, c.requires.room, c.requires.width)

pub returns-in-None-clause-len : goal.returns-in-None-clause-len
returns-in-None-clause-len g c =
    let few = twenty_digits c.args.number c.ranges.number.fits in omega (arith, few, c.put_right.ensures.len, c.requires.width)
