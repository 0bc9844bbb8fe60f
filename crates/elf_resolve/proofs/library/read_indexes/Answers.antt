-- The version indexes are read, or refused.
use Rattle.std.proofs.Common.{◌*◌, sym, ap, ◌∙◌, arith}
use Rattle.std.specs.Prelude.{option_map}
use Rattle.std.proofs.lemmas.Result.{err_from_is_err_and}
use Rattle.elf_model.specs.Checks.{first_refusal}
use Rattle.elf_model.specs.Records.{section_at}
use Rattle.elf_resolve.specs.LibraryFiles.{AreBytesOf, checks_if, header_of_type, version_index_checks}
use Rattle.elf_resolve.specs.ObjectParts.{as_any_refusal}
use Rattle.elf_resolve.proofs.LibraryFileLaws.{by_2, indexes_none, indexes_read, indexes_unread, table_bytes}
use Rattle.elf_resolve.proofs.ObjectLaws.{unread}
use Rattle.elf_resolve.proofs.SectionGroupLaws.{place-is}
use Rattle.elf_resolve.proofs.library.read_indexes.Goals as goal

pub returns-in_default-clause-reads : goal.returns-in_default-clause-reads
returns-in_default-clause-reads g c = λ file known held.
    indexes_none file c.args.strings.now.bytes _ (ap (option_map (section_at file)) (sym c.in_default.is ∙ c.first.ensures.held file held))

pub returns-in_err-table-clause-reads : goal.returns-in_err-table-clause-reads
returns-in_err-table-clause-reads g c = λ file known held.
    let p = err_from_is_err_and c.from_residual.result c.from_residual.ensures.1 in
    rw (p.1, p.2)
    (indexes_unread file c.args.strings.now.bytes _ (section_at file c.in-Some.section) c.in_err-table.field-0.0 (ap (option_map (section_at file)) (c.in-Some.ensures.held file held))
    (sym (c.in_err-table.ensures.held file held)))

pub returns-in_err-rows-clause-reads : goal.returns-in_err-rows-clause-reads
returns-in_err-rows-clause-reads g c = λ file known held.
    let found = c.in_ok-table.table in
    let p = err_from_is_err_and c.from_residual-in_err-rows.result c.from_residual-in_err-rows.ensures.1 in
    rw (p.1, p.2)
    (unread file found.at (found.count * found.entry) found.count (as_any_refusal (first_refusal (checks_if version_index_checks file (header_of_type file 1879048191)))) c.in_err-rows.field-0.0
    (λ some. omega (arith, c.in_ok-table.ensures.lies.within some, held.size)) (c.in_err-rows.ensures.reads file known) c.in_err-rows.ensures.empty)

pub returns-clause-reads : goal.returns-clause-reads
returns-clause-reads g c = λ file known held.
    let at = section_at file c.in-Some.section in
    let found = c.in_ok-table.table in
    let table = sym (c.in_ok-table.ensures.held file held) in
    let are : AreBytesOf file at found = table_bytes file at 2 by_2 found table (λ some. omega (arith, c.in_ok-table.ensures.lies.within some, held.size)) in
    indexes_read file _ at c.at.result c.place-header.result found c.args.strings.now c.read_rows.new.strings c.in_ok-rows.rows (ap (option_map (section_at file)) (c.in-Some.ensures.held file held)) table are
    c.read_rows.ensures.fits c.at.ensures (c.place-header.ensures.value ∙ place-is file c.args.view.now.loaded c.args.view.now.store.now c.in-Some.section held) (c.in_ok-rows.ensures.reads file known)
