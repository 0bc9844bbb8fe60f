use Rattle.std.proofs.Common.{◌<◌, ◌≤◌, arith}
use Rattle.std.proofs.lemmas.Result.{err_from_is_err_and}
use Rattle.elf_model.specs.Records.{e_shnum}
use Rattle.elf_resolve.proofs.SectionNameLaws.{noted_all, noted_fault, noted_first, noted_more}
use Rattle.elf_resolve.proofs.section_names.note_sections.Goals as goal

pub loop-section-init : goal.loop-section-init
loop-section-init c = λ file dropped viewed held marked. noted_first file dropped c.args.keys.now

pub loop-section-preserved : goal.loop-section-preserved
loop-section-preserved c = λ file dropped viewed held marked.
    let below : c.loop-section.section < e_shnum file = omega (arith, c.loop-section-test.true, c.sections-section-end.ensures, viewed.count, viewed.header.e_shnum) in
    noted_more file dropped c.loop-section.section c.args.keys.now c.loop-section.keys c.note_section.new.keys below
    (c.loop-section.invariant file dropped viewed held marked) (c.in_ok-note_section.ensures file dropped viewed held marked)

pub returns-in_err-note_section : goal.returns-in_err-note_section
returns-in_err-note_section c = λ file dropped viewed held marked.
    let below : c.loop-section.section < e_shnum file = omega (arith, c.loop-section-test.true, c.sections-section-end.ensures, viewed.count, viewed.header.e_shnum) in
    let p = err_from_is_err_and c.from_residual.result c.from_residual.ensures.1 in
    rw (p.1, p.2) (noted_fault file dropped c.loop-section.section c.args.keys.now c.loop-section.keys c.in_err-note_section.field-0.0 below
    (c.loop-section.invariant file dropped viewed held marked) (c.in_err-note_section.ensures file dropped viewed held marked))

pub returns : goal.returns
returns c = λ file dropped viewed held marked.
    let past : e_shnum file ≤ c.loop-section.section = omega (arith, c.loop-section-test.false, c.sections-section-end.ensures, viewed.count, viewed.header.e_shnum) in
    noted_all file dropped c.loop-section.section c.args.keys.now c.loop-section.keys past (c.loop-section.invariant file dropped viewed held marked)
