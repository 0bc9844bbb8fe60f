-- The letters are in the order of the calls, each for its own flag.
use Rattle.std.proofs.Common.{append_assoc}
use Rattle.elf_model.specs.NameTables.{segment_flags_text, letter_or_dash}
use Rattle.elf_format.proofs.segment_rows.put_permissions.Goals as goal

pub returns-clause-items : goal.returns-clause-items
unfolding segment_flags_text letter_or_dash
returns-clause-items c =
    rw (
      c.put_letter-3.ensures.items,
      c.put_letter-2.ensures.items,
      c.put_letter.ensures.items,
      c.contains.ensures tt,
      c.contains-2.ensures tt,
      c.contains-3.ensures tt,
    )
    (simp append_assoc)
