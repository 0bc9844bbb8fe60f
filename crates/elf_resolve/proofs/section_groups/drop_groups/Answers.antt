use Rattle.std.proofs.Common.{◌<◌, ◌≤◌, refl, ◌∙◌, sym, arith}
use Rattle.std.proofs.lemmas.Result.{err_from_is_err_and}
use Rattle.elf_model.specs.Records.{e_shnum}
use Rattle.elf_source.proofs.ReadsLaws.{KeepsSource-then}
use Rattle.elf_resolve.proofs.GroupTakenLaws.{forgotten, taken_all, taken_fault, taken_first, taken_more}
use Rattle.elf_resolve.proofs.section_groups.drop_groups.Goals as goal

pub loop-section-init : goal.loop-section-init
loop-section-init g c = (
  record { same_size = refl; no_fewer = omega arith; same_file = refl; same_whole = refl },
  refl,
  λ file known viewed held marked. taken_first file c.args.keys.now c.args.marks.now marked,
  refl,
)

pub loop-section-preserved : goal.loop-section-preserved
loop-section-preserved g c =
    let texts = c.loop-section.invariant.1 in (
      KeepsSource-then c.loop-section.invariant.0 c.take_section.ensures.keeps,
      forgotten c.loop-section.strings c.take_section.new.strings c.forget_after.new.self c.used-used.result c.take_section.ensures.stays c.used-used.ensures c.forget_after.ensures ∙ texts,
      λ file known viewed held marked.
          let below : c.loop-section.section < e_shnum file = omega (arith, c.loop-section-test.true, c.sections-section-end.ensures, viewed.count, viewed.header.e_shnum) in
          let there = c.loop-section.invariant.0.same_file ∙ known in
          let tables = rw (sym texts) at held in
          let here = c.in_ok-dropped.ensures.takes file there viewed tables in
          taken_more file c.loop-section.section c.args.keys.now c.loop-section.keys c.take_section.new.keys c.loop-section.marks c.mark_dropped.new.marks here.groups here.sections below
          (c.loop-section.invariant.2 file known viewed held marked) here.are here.took
          (λ before marks. c.mark_dropped.ensures (e_shnum file) before here.sections here.held marks),
      c.take_section.ensures.most ∙ c.loop-section.invariant.3,
    )

pub returns-in_err-dropped-clause-drops : goal.returns-in_err-dropped-clause-drops
returns-in_err-dropped-clause-drops g c = λ file known viewed held marked.
    let below : c.loop-section.section < e_shnum file = omega (arith, c.loop-section-test.true, c.sections-section-end.ensures, viewed.count, viewed.header.e_shnum) in
    let there = c.loop-section.invariant.0.same_file ∙ known in
    let tables = rw (sym c.loop-section.invariant.1) at held in
    let p = err_from_is_err_and c.from_residual.result c.from_residual.ensures.1 in
    rw (p.1, p.2) (taken_fault file c.loop-section.section c.args.keys.now c.loop-section.keys c.loop-section.marks c.in_err-dropped.field-0.0 below
    (c.loop-section.invariant.2 file known viewed held marked) (c.in_err-dropped.ensures.takes file there viewed tables))

pub returns-clause-drops : goal.returns-clause-drops
returns-clause-drops g c = λ file known viewed held marked.
    let past : e_shnum file ≤ c.loop-section.section = omega (arith, c.loop-section-test.false, c.sections-section-end.ensures, viewed.count, viewed.header.e_shnum) in
    taken_all file c.loop-section.section c.args.keys.now c.loop-section.keys c.loop-section.marks past (c.loop-section.invariant.2 file known viewed held marked)
