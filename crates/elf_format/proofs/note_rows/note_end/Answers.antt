-- The member and the end of the object are in the order of the calls.
use Rattle.std.proofs.Common.{append_assoc}
use Rattle.elf_model.specs.Fields.{with_field}
use Rattle.elf_format.specs.Notes.{note_end}
use Rattle.elf_format.proofs.note_rows.note_end.Goals as goal

pub returns-in-Object-clause-items : goal.returns-in-Object-clause-items
unfolding note_end with_field
returns-in-Object-clause-items c =
    rw (c.in-Object.is, c.put_closing.ensures.items, c.put_text.ensures.items, c.new-line.ensures) (simp append_assoc)
