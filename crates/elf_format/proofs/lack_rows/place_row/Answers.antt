-- The item is written piece by piece.
use Rattle.std.proofs.Common.{refl}
use Rattle.elf_model.specs.ExplainLine.{place_text}
use Rattle.elf_format.proofs.lack_rows.place_row.Goals as goal

pub returns : goal.returns
unfolding place_text
returns c =
    rw (c.put-2.ensures.items, c.put.ensures.items, c.line_of-line.ensures.items, c.as_bytes.ensures.value, c.format.ensures.text) refl
