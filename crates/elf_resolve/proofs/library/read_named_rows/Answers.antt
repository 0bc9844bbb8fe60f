-- The rows of a section and its strings are read, or refused.
use Rattle.std.proofs.Common.{◌*◌, sym, ◌∙◌, arith}
use Rattle.std.proofs.lemmas.Result.{err_from_is_err_and}
use Rattle.elf_model.specs.Checks.{first_refusal, strings_checks}
use Rattle.elf_model.specs.Records.{section_at}
use Rattle.elf_source.proofs.ReadsLaws.{KeepsSource-then}
use Rattle.elf_resolve.specs.ObjectParts.{as_any_refusal}
use Rattle.elf_resolve.proofs.LibraryFileLaws.{named_read, strings_fail}
use Rattle.elf_resolve.proofs.ObjectLaws.{table_refused, unread}
use Rattle.elf_resolve.proofs.StringBufferLaws.{kept_then}
use Rattle.elf_resolve.proofs.library.read_named_rows.Goals as goal

pub returns-in_err-linked-clause-reads : goal.returns-in_err-linked-clause-reads
returns-in_err-linked-clause-reads g c = λ file known held are.
    let at = section_at file c.args.section in
    let p = err_from_is_err_and c.from_residual.result c.from_residual.ensures.1 in
    rw (p.1, p.2) (table_refused (strings_checks file at) c.in_err-linked.field-0.0 (strings_fail file at c.in_err-linked.field-0.0 (sym (c.in_err-linked.ensures.held file held))))

pub returns-in_err-rows-clause-reads : goal.returns-in_err-rows-clause-reads
returns-in_err-rows-clause-reads g c = λ file known held are.
    let found = c.args.table in
    let p = err_from_is_err_and c.from_residual-in_err-rows.result c.from_residual-in_err-rows.ensures.1 in
    rw (p.1, p.2)
    (unread file found.at (found.count * found.entry) found.count (as_any_refusal (first_refusal (strings_checks file (section_at file c.args.section)))) c.in_err-rows.field-0.0
    are.within (c.in_err-rows.ensures.reads file known) c.in_err-rows.ensures.empty)

pub returns-in_err-names-clause-keeps : goal.returns-in_err-names-clause-keeps
returns-in_err-names-clause-keeps g c = KeepsSource-then c.read_rows.ensures.keeps c.read_names.ensures.keeps

pub returns-in_err-names-clause-stays : goal.returns-in_err-names-clause-stays
returns-in_err-names-clause-stays g c = kept_then c.read_rows.ensures.stays c.read_names.ensures.stays

pub returns-in_err-names-clause-reads : goal.returns-in_err-names-clause-reads
returns-in_err-names-clause-reads g c = λ file known held are.
    let linked = c.in_ok-linked.linked in
    let p = err_from_is_err_and c.from_residual-in_err-names.result c.from_residual-in_err-names.ensures.1 in
    rw (p.1, p.2)
    (unread file linked.at linked.size linked.size (as_any_refusal (first_refusal (strings_checks file (section_at file c.args.section)))) c.in_err-names.field-0.0
    (λ some. omega (arith, c.in_ok-linked.ensures.within some, held.size)) (c.in_err-names.ensures.reads file (c.read_rows.ensures.keeps.same_file ∙ known)) c.in_err-names.ensures.empty)

pub returns-clause-keeps : goal.returns-clause-keeps
returns-clause-keeps g c = KeepsSource-then c.read_rows.ensures.keeps c.read_names.ensures.keeps

pub returns-clause-stays : goal.returns-clause-stays
returns-clause-stays g c = kept_then c.read_rows.ensures.stays c.read_names.ensures.stays

pub returns-clause-reads : goal.returns-clause-reads
returns-clause-reads g c = λ file known held are.
    named_read file (section_at file c.args.section) c.args.table c.in_ok-linked.linked c.args.strings.now c.read_rows.new.strings c.read_names.new.strings c.in_ok-rows.rows c.in_ok-names.names
    (sym (c.in_ok-linked.ensures.held file held)) are (c.in_ok-rows.ensures.reads file known) (c.in_ok-names.ensures.reads file (c.read_rows.ensures.keeps.same_file ∙ known))
