-- The records of versions of a section are read, or refused.
use Rattle.std.proofs.Common.{sym, ap, ◌∙◌, arith}
use Rattle.std.specs.Prelude.{option_map}
use Rattle.std.proofs.lemmas.Result.{err_from_is_err_and}
use Rattle.elf_model.specs.Records.{section_at}
use Rattle.elf_resolve.specs.LibraryFiles.{AreBytesOf}
use Rattle.elf_resolve.proofs.LibraryFileLaws.{bytes_found, bytes_same, bytes_single, records_empty, records_none, records_outside, records_read, records_unnamed, some_bytes}
use Rattle.elf_resolve.proofs.SectionGroupLaws.{place-is}
use Rattle.elf_resolve.proofs.library_versions.read_records.Goals as goal

pub returns-in_default-clause-reads : goal.returns-in_default-clause-reads
returns-in_default-clause-reads g c = λ file known held.
    records_none file c.args.strings.now.bytes _ (ap (option_map (section_at file)) (sym c.in_default.is ∙ c.first.ensures.held file held))

pub returns-in_err-table-clause-reads : goal.returns-in_err-table-clause-reads
returns-in_err-table-clause-reads g c = λ file known held.
    let at = section_at file c.in-Some.section in
    let fields = c.section-found.ensures.is_at file held in
    let placed = c.place-header.ensures.value ∙ place-is file c.args.view.now.loaded c.args.view.now.store.now c.in-Some.section held in
    let p = err_from_is_err_and c.from_residual.result c.from_residual.ensures.1 in
    rw (p.1, p.2)
    (records_outside file c.args.strings.now.bytes _ at c.in_err-table.field-0.0 (ap (option_map (section_at file)) (c.in-Some.ensures.held file held))
    (sym (c.in_err-table.ensures.value ∙ bytes_same _ _ _ _ at file held.size fields.sh_offset fields.sh_size placed)))

pub returns-then-is_empty-clause-reads : goal.returns-then-is_empty-clause-reads
returns-then-is_empty-clause-reads g c = λ file known held.
    let at = section_at file c.in-Some.section in
    let found = c.in_ok-table.table in
    let fields = c.section-found.ensures.is_at file held in
    let placed = c.place-header.ensures.value ∙ place-is file c.args.view.now.loaded c.args.view.now.store.now c.in-Some.section held in
    let table = sym (c.in_ok-table.ensures.value ∙ bytes_same _ _ _ _ at file held.size fields.sh_offset fields.sh_size placed) in
    let are : AreBytesOf file at found = bytes_found file at found table (λ some. omega (arith, c.in_ok-table.ensures.within some, held.size)) in
    records_empty file c.args.strings.now.bytes _ at found (ap (option_map (section_at file)) (c.in-Some.ensures.held file held)) are (c.is_empty.ensures.0 c.if-is_empty.true)

pub returns-in_err-records-clause-reads : goal.returns-in_err-records-clause-reads
returns-in_err-records-clause-reads g c = λ file known held.
    let at = section_at file c.in-Some.section in
    let found = c.in_ok-table.table in
    let fields = c.section-found.ensures.is_at file held in
    let placed = c.place-header.ensures.value ∙ place-is file c.args.view.now.loaded c.args.view.now.store.now c.in-Some.section held in
    let table = sym (c.in_ok-table.ensures.value ∙ bytes_same _ _ _ _ at file held.size fields.sh_offset fields.sh_size placed) in
    let are : AreBytesOf file at found = bytes_found file at found table (λ some. omega (arith, c.in_ok-table.ensures.within some, held.size)) in
    let some = some_bytes file at found 1 (bytes_single file at found table) (λ n zero. omega (arith, zero)) are (λ none. let yes = c.is_empty.ensures.1 none in let no = c.if-is_empty.false in absurd (cc)) in
    let p = err_from_is_err_and c.from_residual-in_err-records.result c.from_residual-in_err-records.ensures.1 in
    rw (p.1, p.2)
    (records_unnamed file c.read_named_rows.new.strings.bytes _ at found c.in_err-records.field-0.0 (ap (option_map (section_at file)) (c.in-Some.ensures.held file held)) table some
    (c.in_err-records.ensures.reads file known held are))

pub returns-clause-reads : goal.returns-clause-reads
returns-clause-reads g c = λ file known held.
    let at = section_at file c.in-Some.section in
    let found = c.in_ok-table.table in
    let fields = c.section-found.ensures.is_at file held in
    let placed = c.place-header.ensures.value ∙ place-is file c.args.view.now.loaded c.args.view.now.store.now c.in-Some.section held in
    let table = sym (c.in_ok-table.ensures.value ∙ bytes_same _ _ _ _ at file held.size fields.sh_offset fields.sh_size placed) in
    let are : AreBytesOf file at found = bytes_found file at found table (λ some. omega (arith, c.in_ok-table.ensures.within some, held.size)) in
    let some = some_bytes file at found 1 (bytes_single file at found table) (λ n zero. omega (arith, zero)) are (λ none. let yes = c.is_empty.ensures.1 none in let no = c.if-is_empty.false in absurd (cc)) in
    records_read file c.read_named_rows.new.strings.bytes _ at c.at.result c.place-header.result found c.in_ok-records.records c.in_ok-records.names (ap (option_map (section_at file)) (c.in-Some.ensures.held file held)) table some are
    c.in_ok-records.ensures.fits c.at.ensures placed (c.in_ok-records.ensures.reads file known held are)
