-- The dynamic entries and their strings are read, or refused.
use Rattle.std.proofs.Common.{sym, ap, ◌∙◌, arith}
use Rattle.std.specs.Prelude.{option_map}
use Rattle.std.proofs.lemmas.Result.{err_from_is_err_and}
use Rattle.elf_model.specs.Records.{section_at}
use Rattle.elf_resolve.specs.LibraryFiles.{AreBytesOf}
use Rattle.elf_resolve.proofs.LibraryFileLaws.{by_16, dynamic_empty, dynamic_none, dynamic_read, dynamic_unnamed, dynamic_unread, some_bytes, table_bytes}
use Rattle.elf_resolve.proofs.library.read_dynamic.Goals as goal

pub returns-in_default-clause-reads : goal.returns-in_default-clause-reads
returns-in_default-clause-reads g c = λ file known held.
    dynamic_none file c.args.strings.now.bytes _ (ap (option_map (section_at file)) (sym c.in_default.is ∙ c.first.ensures.held file held))

pub returns-in_err-table-clause-reads : goal.returns-in_err-table-clause-reads
returns-in_err-table-clause-reads g c = λ file known held.
    let p = err_from_is_err_and c.from_residual.result c.from_residual.ensures.1 in
    rw (p.1, p.2)
    (dynamic_unread file c.args.strings.now.bytes _ (section_at file c.in-Some.section) c.in_err-table.field-0.0 (ap (option_map (section_at file)) (c.in-Some.ensures.held file held))
    (sym (c.in_err-table.ensures.held file held)))

pub returns-then-is_empty-clause-reads : goal.returns-then-is_empty-clause-reads
returns-then-is_empty-clause-reads g c = λ file known held.
    let at = section_at file c.in-Some.section in
    let found = c.in_ok-table.table in
    let are : AreBytesOf file at found = table_bytes file at 16 by_16 found (sym (c.in_ok-table.ensures.held file held)) (λ some. omega (arith, c.in_ok-table.ensures.lies.within some, held.size)) in
    dynamic_empty file c.args.strings.now.bytes _ at found (ap (option_map (section_at file)) (c.in-Some.ensures.held file held)) are (c.is_empty.ensures.0 c.if-is_empty.true)

pub returns-in_err-rows-clause-reads : goal.returns-in_err-rows-clause-reads
returns-in_err-rows-clause-reads g c = λ file known held.
    let at = section_at file c.in-Some.section in
    let found = c.in_ok-table.table in
    let table = sym (c.in_ok-table.ensures.held file held) in
    let are : AreBytesOf file at found = table_bytes file at 16 by_16 found table (λ some. omega (arith, c.in_ok-table.ensures.lies.within some, held.size)) in
    let some = some_bytes file at found 16 c.in_ok-table.ensures.lies.entry (λ n zero. omega (arith, zero)) are (λ none. let yes = c.is_empty.ensures.1 none in let no = c.if-is_empty.false in absurd (cc)) in
    let p = err_from_is_err_and c.from_residual-in_err-rows.result c.from_residual-in_err-rows.ensures.1 in
    rw (p.1, p.2)
    (dynamic_unnamed file c.read_named_rows.new.strings.bytes _ at found c.in_err-rows.field-0.0 (ap (option_map (section_at file)) (c.in-Some.ensures.held file held)) table some
    (c.in_err-rows.ensures.reads file known held are))

pub returns-clause-reads : goal.returns-clause-reads
returns-clause-reads g c = λ file known held.
    let at = section_at file c.in-Some.section in
    let found = c.in_ok-table.table in
    let table = sym (c.in_ok-table.ensures.held file held) in
    let are : AreBytesOf file at found = table_bytes file at 16 by_16 found table (λ some. omega (arith, c.in_ok-table.ensures.lies.within some, held.size)) in
    let some = some_bytes file at found 16 c.in_ok-table.ensures.lies.entry (λ n zero. omega (arith, zero)) are (λ none. let yes = c.is_empty.ensures.1 none in let no = c.if-is_empty.false in absurd (cc)) in
    dynamic_read file c.read_named_rows.new.strings.bytes _ at c.at.result found c.in_ok-rows.rows c.in_ok-rows.names (ap (option_map (section_at file)) (c.in-Some.ensures.held file held)) table some are
    c.in_ok-rows.ensures.fits c.at.ensures (c.in_ok-rows.ensures.reads file known held are)
