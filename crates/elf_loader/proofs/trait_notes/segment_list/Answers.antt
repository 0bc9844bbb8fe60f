-- The notes of a segment, if it holds any.
use Rattle.std.proofs.Common.{sym, ◌∙◌, arith}
use Rattle.std.proofs.lemmas.Bool.{eq-eqb, ne_eqb}
use Rattle.std.proofs.lemmas.Result.{err_from_is_err_and}
use Rattle.elf_table.proofs.LedgerLaws.{CallDid-as, CallDid-none, CallDid-stop}
use Rattle.elf_loader.proofs.FeatureLaws.{list_other}
use Rattle.elf_loader.proofs.ListLaws.{count_fitting, segment_asked, segment_fails, segment_told}
use Rattle.elf_loader.proofs.trait_notes.segment_list.Goals as goal

pub returns-then-header-ne-PT_NOTE : goal.returns-then-header-ne-PT_NOTE
returns-then-header-ne-PT_NOTE g c = record {
  did = CallDid-as _ (omega arith) (CallDid-none c.args.src.now)
      (λ file told costs views.
      let is_at = c.segment-header.ensures.is_at file views in
      record { costs = costs _ (omega arith); finds = list_other file c.args.segment (ne_eqb _ _ (λ same. c.if-header-ne-PT_NOTE.true (is_at.p_type ∙ same))) });
  within = tt;
}

pub returns-in_err-table : goal.returns-in_err-table
returns-in_err-table g c =
    let p = err_from_is_err_and c.from_residual.result c.from_residual.ensures.1 in
    rw (p.1, p.2)
    (record {
      did = CallDid-as _ (omega arith) (CallDid-stop _ c.in_err-table.ensures.lies (CallDid-none c.args.src.now))
          (λ file told costs views.
          let is_at = c.segment-header.ensures.is_at file views in
          let is = eq-eqb _ _ (sym is_at.p_type ∙ c.if-header-ne-PT_NOTE.false) in
          record { costs = costs _ (omega arith); finds = segment_fails file c.args.segment is _ (c.in_err-table.ensures.held file views) });
      within = tt;
    })

pub returns-clause-did : goal.returns-clause-did
returns-clause-did g c =
    let fits = count_fitting _ _ c.in_ok-table.ensures.lies.entry c.in_ok-table.ensures.lies.within in
    CallDid-as _ (omega (arith, fits, c.requires.size)) c.first_list.ensures.did
    (λ file told costs views.
    let is_at = c.segment-header.ensures.is_at file views in
    let is = eq-eqb _ _ (sym is_at.p_type ∙ c.if-header-ne-PT_NOTE.false) in
    let held = c.in_ok-table.ensures.held file views in
    let asked = segment_asked file c.args.segment is _ held in
    record { costs = costs _ (omega (arith, asked)); finds = segment_told file c.args.segment is _ held _ (rw is_at.p_align at told) })
