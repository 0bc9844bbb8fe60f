-- The section that is linked to holds symbols, and the result is that for them.
use Rattle.std.proofs.Common.{sym, ◌∙◌, ap, arith}
use Rattle.std.proofs.lemmas.Result.{err_from_is_err_and}
use Rattle.elf_model.specs.Records.{section_at}
use Rattle.elf_record.specs.declared.ehdr.Ehdr.{Ehdr}
use Rattle.elf_table.proofs.RelocationLaws.{has-linked, linked-fails, linked-some}
use Rattle.elf_table.proofs.loaded.Loaded.linked.Goals as goal

pub returns-in_err-symbols-clause-held : goal.returns-in_err-symbols-clause-held
returns-in_err-symbols-clause-held g c = λ file belongs.
    let p = err_from_is_err_and c.from_residual.result c.from_residual.ensures.1 in
    let counted = c.from.ensures ∙ (ap (λ (header : Ehdr). header.e_shnum) c.header.ensures.value ∙ belongs.header.e_shnum) in
    let link = (c.section_header-link.ensures.is_at file belongs.rows).sh_link in
    let has = has-linked file _ c.section_header-link.result.sh_link c.from.result c.holds_symbols.result link counted (omega arith) (c.holds_symbols.ensures file _ (c.section_header.ensures.is_at file belongs.rows)) c.if-not-holds_symbols.false in
    rw (p.1, p.2) (linked-fails file (section_at file c.args.section) _ link has _ (sym (c.in_err-symbols.ensures.held file belongs)))

pub returns-clause-held : goal.returns-clause-held
returns-clause-held g c = λ file belongs.
    let counted = c.from.ensures ∙ (ap (λ (header : Ehdr). header.e_shnum) c.header.ensures.value ∙ belongs.header.e_shnum) in
    let link = (c.section_header-link.ensures.is_at file belongs.rows).sh_link in
    let has = has-linked file _ c.section_header-link.result.sh_link c.from.result c.holds_symbols.result link counted (omega arith) (c.holds_symbols.ensures file _ (c.section_header.ensures.is_at file belongs.rows)) c.if-not-holds_symbols.false in
    linked-some file _ _ link has _ (sym (c.in_ok-symbols.ensures.held file belongs))
