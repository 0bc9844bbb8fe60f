-- The store has the program header, and the file that is viewed has it at that index.
use Rattle.elf_table.proofs.segment_view.ExecutionView.segment.Goals as goal

pub returns-clause-fields : goal.returns-clause-fields
returns-clause-fields c = c.segment.ensures.fields

pub returns-clause-is_at : goal.returns-clause-is_at
returns-clause-is_at c = λ file views. c.segment.ensures.is_at file views.rows
