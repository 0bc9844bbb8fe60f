-- The segment of each table, and of the symbols.
use Rattle.elf_model.specs.ImageChecks.{linkage_table, rela_table, relative_table}
use Rattle.elf_image.proofs.ToldSteps.{among_is}
use Rattle.elf_image.proofs.changes.table_segments.Goals as goal

pub returns : goal.returns
returns c = λ file at segment views are row.
    among_is file at segment _ (c.table_segment.ensures file (relative_table file at) 8 segment views are.compact)
    (c.table_segment-2.ensures file (rela_table file at) 24 segment views are.addends) (c.table_segment-3.ensures file (linkage_table file at) 24 segment views are.calls)
    (c.row_segment.ensures file at segment views row)
