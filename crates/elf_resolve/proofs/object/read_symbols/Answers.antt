-- A symbol table and the names of its symbols are read, or its checks refuse it.
use Rattle.std.proofs.Common.{◌≡◌, ◌*◌, sym, ◌∙◌, arith}
use Rattle.std.proofs.lemmas.Result.{err_from_is_err_and}
use Rattle.elf_model.specs.Checks.{first_refusal}
use Rattle.elf_model.specs.Records.{section_at, sh_size}
use Rattle.elf_model.specs.Tables.{symbol_table_checks}
use Rattle.elf_table.proofs.RelocationLaws.{symbols-fail}
use Rattle.elf_source.proofs.ReadsLaws.{KeepsSource-then}
use Rattle.elf_resolve.specs.ObjectParts.{as_any_refusal}
use Rattle.elf_resolve.proofs.ObjectLaws.{symbols_read, table_refused, unread}
use Rattle.elf_resolve.proofs.StringBufferLaws.{kept_then}
use Rattle.elf_resolve.proofs.object.read_symbols.Goals as goal

pub returns-in_err-table-clause-reads : goal.returns-in_err-table-clause-reads
returns-in_err-table-clause-reads g c = λ file known held.
    let at = section_at file c.args.section in
    let p = err_from_is_err_and c.from_residual.result c.from_residual.ensures.1 in
    rw (p.1, p.2) (table_refused (symbol_table_checks file at) c.in_err-table.field-0.0 (symbols-fail file at c.in_err-table.field-0.0 (sym (c.in_err-table.ensures.held file held))))

pub returns-in_err-rows-clause-reads : goal.returns-in_err-rows-clause-reads
returns-in_err-rows-clause-reads g c = λ file known held.
    let found = c.in_ok-table.table in
    let p = err_from_is_err_and c.from_residual-in_err-rows.result c.from_residual-in_err-rows.ensures.1 in
    rw (p.1, p.2)
    (unread file found.at (found.count * found.entry) found.count (as_any_refusal (first_refusal (symbol_table_checks file (section_at file c.args.section)))) c.in_err-rows.field-0.0
    (λ some. omega (arith, c.in_ok-table.ensures.within.1 some, held.size)) (c.in_err-rows.ensures.reads file known) c.in_err-rows.ensures.empty)

pub returns-clause-reads : goal.returns-clause-reads
returns-clause-reads g c = λ file known held.
    let found = c.in_ok-table.table in
    let fields = c.section.ensures.is_at file held in
    let sized : found.count * found.entry ≡ sh_size file (section_at file c.args.section) = c.in_ok-table.ensures.sized ∙ sym c.section.ensures.fields.sh_size ∙ fields.sh_size in
    symbols_read file c.args.section c.at-2.result c.len.result c.from-first.result found c.in_ok-table.names c.args.strings.now c.read_rows.new.strings c.read_names.new.strings c.in_ok-rows.rows c.in_ok-names.names
    (sym (c.in_ok-table.ensures.held file held)) c.read_rows.ensures.fits sized (c.in_ok-rows.ensures.reads file known)
    (c.in_ok-names.ensures.reads file (c.read_rows.ensures.keeps.same_file ∙ known)) c.at-2.ensures c.len.ensures (c.from-first.ensures ∙ fields.sh_info)

pub returns-in_err-names-clause-keeps : goal.returns-in_err-names-clause-keeps
returns-in_err-names-clause-keeps g c = KeepsSource-then c.read_rows.ensures.keeps c.read_names.ensures.keeps

pub returns-in_err-names-clause-stays : goal.returns-in_err-names-clause-stays
returns-in_err-names-clause-stays g c = kept_then c.read_rows.ensures.stays c.read_names.ensures.stays

pub returns-clause-keeps : goal.returns-clause-keeps
returns-clause-keeps g c = KeepsSource-then c.read_rows.ensures.keeps c.read_names.ensures.keeps

pub returns-clause-stays : goal.returns-clause-stays
returns-clause-stays g c = kept_then c.read_rows.ensures.stays c.read_names.ensures.stays

pub returns-in_err-names-clause-reads : goal.returns-in_err-names-clause-reads
returns-in_err-names-clause-reads g c = λ file known held.
    let p = err_from_is_err_and c.from_residual-in_err-names.result c.from_residual-in_err-names.ensures.1 in
    rw (p.1, p.2)
    (unread file c.in_ok-table.names.at c.in_ok-table.names.size c.in_ok-table.names.size (as_any_refusal (first_refusal (symbol_table_checks file (section_at file c.args.section)))) c.in_err-names.field-0.0
    (λ some. omega (arith, c.in_ok-table.ensures.within.2 some, held.size)) (c.in_err-names.ensures.reads file (c.read_rows.ensures.keeps.same_file ∙ known)) c.in_err-names.ensures.empty)
