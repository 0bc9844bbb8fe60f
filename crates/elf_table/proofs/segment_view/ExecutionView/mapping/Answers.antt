-- The file that is viewed has the program headers that the store has.
use Rattle.std.proofs.Common.{◌∙◌}
use Rattle.elf_table.proofs.segment_view.ExecutionView.mapping.Goals as goal

pub returns-clause-held : goal.returns-clause-held
returns-clause-held c = λ file views. c.mapping.ensures.held file views.rows (views.count ∙ views.belongs.header.e_phnum)
