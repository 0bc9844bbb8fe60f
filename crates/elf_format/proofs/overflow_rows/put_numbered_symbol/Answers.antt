-- The words, and the index.
use Rattle.std.proofs.Common.{codes, decimal, append_assoc}
use Rattle.elf_format.proofs.OverflowText.{numbered_some}
use Rattle.elf_format.proofs.overflow_rows.put_numbered_symbol.Goals as goal

pub returns-clause-items : goal.returns-clause-items
returns-clause-items c =
    rw (numbered_some c.args.symbol c.if-symbol-eq0.false, c.put-2.ensures.items, c.put.ensures.items, c.as_bytes.ensures.value, c.format.ensures.text)
    (append_assoc c.args.line.now.items (codes " against symbol ") (decimal c.args.symbol))
