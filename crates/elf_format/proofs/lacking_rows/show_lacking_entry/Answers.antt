-- The line has room: its parts have at most 16 bytes, or 18.
use Rattle.std.proofs.Common.{arith}
use Rattle.elf_format.proofs.Decimals.{ten_digits}
use Rattle.elf_format.proofs.lacking_rows.show_lacking_entry.Goals as goal

pub put_right-requires-clause-room : goal.put_right-requires-clause-room
put_right-requires-clause-room g c =
    let few = ten_digits c.args.symbol c.ranges.symbol.fits in
    rw c.from.ensures (omega (arith, few, c.line_of-line.ensures.len, c.write_hex.ensures.len, c.put.ensures.len, c.write_hex-2.ensures.len, c.put-2.ensures.len, c.put_left.ensures.len, c.type_name.ensures.short, c.as_bytes.ensures.len))

pub put-requires-3 : goal.put-requires-3
put-requires-3 g c =
    let few = ten_digits c.args.symbol c.ranges.symbol.fits in
    let len = rw c.from.ensures at c.put_right.ensures.len in
    rw c.as_bytes-2.ensures.value (omega (arith, few, len, c.cause_word.ensures.short, c.line_of-line.ensures.len, c.write_hex.ensures.len, c.put.ensures.len, c.write_hex-2.ensures.len, c.put-2.ensures.len, c.put_left.ensures.len, c.type_name.ensures.short, c.as_bytes.ensures.len))

pub put-requires-4 : goal.put-requires-4
put-requires-4 g c =
    let few = ten_digits c.args.symbol c.ranges.symbol.fits in
    let len = rw c.from.ensures at c.put_right.ensures.len in
    let last = rw c.as_bytes-2.ensures.value at c.put-3.ensures.len in
    omega (arith, few, len, last, c.cause_word.ensures.short, c.line_of-line.ensures.len, c.write_hex.ensures.len, c.put.ensures.len, c.write_hex-2.ensures.len, c.put-2.ensures.len, c.put_left.ensures.len, c.type_name.ensures.short, c.as_bytes.ensures.len)
