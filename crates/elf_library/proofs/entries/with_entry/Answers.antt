-- An entry without a text, one whose strings or text are refused, one whose text is stored, and one
-- that is a need too.
use Rattle.std.proofs.Common.{sym, ◌∙◌, arith, ap}
use Rattle.std.proofs.lemmas.Result.{err_from_is_err_and}
use Rattle.elf_table.proofs.LedgerLaws.{CallDid-as, CallDid-none, CallDid-stop}
use Rattle.elf_model.specs.Links.{is_link}
use Rattle.elf_library.proofs.LinkLaws.{isnt_tag, names_stop, need_told, text_stops, text_told, with_other}
use Rattle.elf_library.proofs.entries.with_entry.Goals as goal

pub returns-then-not-is_link : goal.returns-then-not-is_link
returns-then-not-is_link g c =
    CallDid-as _ (omega arith) (CallDid-none c.args.src.now)
    (λ file told costs views dyn before state keeps.
    let tag = c.tag_of-tag.ensures file c.args.at dyn in
    let isnt = ap is_link (sym tag) ∙ (sym c.is_link.ensures ∙ c.if-not-is_link.true) in
    (state, with_other file _ _ c.args.at state isnt, keeps))

pub returns-in_err-names : goal.returns-in_err-names
returns-in_err-names g c =
    let p = err_from_is_err_and c.from_residual.result c.from_residual.ensures.1 in
    rw (p.1, p.2)
    (CallDid-as _ (omega arith) (CallDid-stop _ c.in_err-names.ensures.refusal (CallDid-none c.args.src.now))
    (λ file told costs views dyn before state keeps.
    let tag = c.tag_of-tag.ensures file c.args.at dyn in
    let is = ap is_link (sym tag) ∙ (sym c.is_link.ensures ∙ c.if-not-is_link.false) in
    names_stop file _ _ c.args.at state is before c.args.store.now _ (c.in_err-names.ensures.tells file views)))

pub returns-in_err-text : goal.returns-in_err-text
returns-in_err-text g c =
    let p = err_from_is_err_and c.from_residual-in_err-text.result c.from_residual-in_err-text.ensures.1 in
    rw (p.1, p.2)
    (CallDid-as _ (omega arith) c.in_err-text.ensures.did
    (λ file told costs views dyn before state keeps.
    let tag = c.tag_of-tag.ensures file c.args.at dyn in
    let is = ap is_link (sym tag) ∙ (sym c.is_link.ensures ∙ c.if-not-is_link.false) in
    let strings = c.in_ok-names.ensures.tells file views in
    text_stops file _ _ c.args.at state is _ _ before c.args.store.now c.read.new.self _ strings keeps.room _ dyn.d_un told))

pub returns-then-tag-ne-DT_NEEDED : goal.returns-then-tag-ne-DT_NEEDED
returns-then-tag-ne-DT_NEEDED g c =
    rw c.with_text.ensures
    (CallDid-as _ (omega arith) c.in_ok-text.ensures.did
    (λ file told costs views dyn before state keeps.
    let tag = c.tag_of-tag.ensures file c.args.at dyn in
    let is = ap is_link (sym tag) ∙ (sym c.is_link.ensures ∙ c.if-not-is_link.false) in
    let strings = c.in_ok-names.ensures.tells file views in
    text_told file _ _ c.args.at state is _ before _ _ _ c.args.links strings _ dyn.d_un told keeps c.tag_of-tag.result tag (isnt_tag _ _ c.if-tag-ne-DT_NEEDED.true)))

pub returns-then-push_needed : goal.returns-then-push_needed
returns-then-push_needed g c =
    CallDid-as _ (omega arith) c.in_ok-text.ensures.did
    (λ file told costs views dyn before state keeps.
    let tag = c.tag_of-tag.ensures file c.args.at dyn in
    let is = ap is_link (sym tag) ∙ (sym c.is_link.ensures ∙ c.if-not-is_link.false) in
    let strings = c.in_ok-names.ensures.tells file views in
    let need = rw c.if-push_needed.true at c.push_needed.ensures.need in
    need_told file _ _ c.args.at state is _ before _ _ _ c.args.links strings _ dyn.d_un told keeps (sym tag ∙ c.if-tag-ne-DT_NEEDED.false) _ need)
