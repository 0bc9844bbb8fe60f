-- Each entry is the first with its tag.
use Rattle.std.proofs.Common.{refl}
use Rattle.elf_image.specs.Located.{rows_with}
use Rattle.elf_image.proofs.dynamic_rows.with_row.Goals as goal

pub returns-clause-rows : goal.returns-clause-rows
unfolding rows_with
returns-clause-rows c = λ file is.
    let compact = c.with_table_row.ensures file is in
    let plain = c.with_table_row-2.ensures file is in
    let addends = c.with_table_row-3.ensures file is in
    let calls = c.with_table_row-4.ensures file is in
    let symbols = c.first_of.ensures file is in
    let text = c.first_of-2.ensures file is in
    let flags = c.first_of-3.ensures file is in
    let relative = c.first_of-4.ensures file is in
    rw (compact, plain, addends, calls, symbols, text, flags, relative) refl
