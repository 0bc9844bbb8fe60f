-- The rest of the segment that has the symbols.
use Rattle.std.proofs.Common.{sym, ◌∙◌}
use Rattle.std.proofs.lemmas.Result.{err_from_is_err_and}
use Rattle.elf_hash.proofs.SegmentLaws.{entry_passes, entry_refused}
use Rattle.elf_image.proofs.TableSteps.{its_value, symbols_found, symbols_refused}
use Rattle.elf_image.proofs.tables.checked_symbols.Goals as goal

pub returns-in_err-rest-clause-symbols : goal.returns-in_err-rest-clause-symbols
returns-in_err-rest-clause-symbols c = λ file at views row.
    let p = err_from_is_err_and c.from_residual.result c.from_residual.ensures.1 in
    let is = sym c.in-Some.is ∙ row in
    rw (p.1, p.2) (symbols_refused file at c.in-Some.row is _ (entry_refused file c.in-Some.row _ (its_value file at c.in-Some.row is) (c.in_err-rest.ensures.value file views)))

pub returns-clause-symbols : goal.returns-clause-symbols
returns-clause-symbols c = λ file at views row.
    let is = sym c.in-Some.is ∙ row in
    let rest = entry_passes file c.in-Some.row c.in_ok-rest.rest (its_value file at c.in-Some.row is) (c.in_ok-rest.ensures.value file views) in
    symbols_found file at c.in-Some.row is c.in_ok-rest.rest c.new.result rest.0 rest.1 (rw (c.at.ensures, c.len.ensures) at c.new.ensures)
