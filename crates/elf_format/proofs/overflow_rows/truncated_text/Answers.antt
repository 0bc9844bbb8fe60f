-- The text is put piece by piece.
use Rattle.elf_format.proofs.OverflowText.{truncated_is}
use Rattle.elf_format.proofs.overflow_rows.truncated_text.Goals as goal

pub returns-clause-text : goal.returns-clause-text
returns-clause-text c =
    rw (c.put_type.ensures.items, c.put-3.ensures.items, c.put_short_hex.ensures.items, c.put-2.ensures.items, c.put.ensures.items, c.line_of-line.ensures.items, c.as_bytes.ensures.value, c.format.ensures.text)
    (truncated_is c.args.overflowed)
