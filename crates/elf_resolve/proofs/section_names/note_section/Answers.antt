use Rattle.std.proofs.Common.{◌<◌, false, get_or, ap, ◌∙◌, sym, arith}
use Rattle.std.proofs.lemmas.Result.{err_from_is_err_and}
use Rattle.elf_model.specs.LinkArchives.{refusal_of}
use Rattle.elf_model.specs.LinkSymbols.{is_identifier}
use Rattle.elf_resolve.specs.SectionGroups.{named_sections}
use Rattle.elf_resolve.proofs.LinkFaultLaws.{fault_of_any}
use Rattle.elf_resolve.proofs.SectionNameLaws.{name_fault, noted_dropped, noted_none, noted_one}
use Rattle.elf_resolve.proofs.section_names.note_section.Goals as goal

pub returns-in_err-name : goal.returns-in_err-name
returns-in_err-name c = λ file dropped viewed held marked.
    let p = err_from_is_err_and c.from_residual.result c.from_residual.ensures.1 in
    rw (p.1, p.2) (name_fault file c.args.strings.now.bytes c.args.section _ (c.in_err-name.ensures file viewed held))

pub returns-then-not-is_identifier : goal.returns-then-not-is_identifier
returns-then-not-is_identifier c = λ file dropped viewed held marked.
    let f = c.in_ok-name.ensures file viewed held in
    noted_none file dropped c.args.section c.args.keys.now f.0 f.1 (ap is_identifier (sym (c.bytes-text.ensures f.0 f.2)) ∙ sym c.is_identifier.ensures ∙ c.if-not-is_identifier.true)

pub returns-then-is_dropped : goal.returns-then-is_dropped
returns-then-is_dropped c = λ file dropped viewed held marked.
    let f = c.in_ok-name.ensures file viewed held in
    let few : c.args.section < 65535 = omega (arith, c.requires, viewed.count, viewed.header.e_shnum, marked.few) in
    noted_dropped file dropped c.args.section c.args.keys.now f.0 f.1 (ap is_identifier (sym (c.bytes-text.ensures f.0 f.2)) ∙ sym c.is_identifier.ensures ∙ c.if-not-is_identifier.false)
    (sym (marked.marked c.args.section few) ∙ ap (λ i. get_or c.args.marks.now i false) (sym c.from.ensures) ∙ sym c.is_dropped.ensures ∙ c.if-is_dropped.true)

pub returns-in-Ok : goal.returns-in-Ok
returns-in-Ok c = λ file dropped viewed held marked.
    let f = c.in_ok-name.ensures file viewed held in
    let few : c.args.section < 65535 = omega (arith, c.requires, viewed.count, viewed.header.e_shnum, marked.few) in
    let same = c.bytes-text.ensures f.0 f.2 in
    noted_one file dropped c.args.section c.args.keys.now c.note_section.new.self f.0 f.1 (ap is_identifier (sym same) ∙ sym c.is_identifier.ensures ∙ c.if-not-is_identifier.false)
    (sym (marked.marked c.args.section few) ∙ ap (λ i. get_or c.args.marks.now i false) (sym c.from.ensures) ∙ sym c.is_dropped.ensures ∙ c.if-is_dropped.false)
    (rw same at (c.in-Ok.ensures))

pub returns-in-Err : goal.returns-in-Err
returns-in-Err c = λ file dropped viewed held marked. fault_of_any (refusal_of (named_sections file c.args.section)) c.full.result c.full.ensures.limit
