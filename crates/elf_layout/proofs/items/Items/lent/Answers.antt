use Rattle.std.proofs.Common.{ap, sym, subst, ◌∙◌, Equal, nat_cmp, get_or}
use Rattle.std.proofs.lemmas.Cmp.{nat_cmp_total, ranked}
use Rattle.elf_layout.specs.Prelude.{HasTwice, KeysNeverDescend, borrowed_index, named, placed}
use Rattle.elf_layout.proofs.ListedSteps.{key_twice}
use Rattle.elf_layout.proofs.items.Items.lent.Goals as goal

pub returns-in-Err-clause-refused : goal.returns-in-Err-clause-refused
returns-in-Err-clause-refused c =
    let is = ap placed c.as_slice.ensures.value ∙ ap (λ l. l.sections) c.self.view_is in
    let items = c.as_slice.result.now in
    let twice = key_twice borrowed_index (λ item. item.address) items nat_cmp_total (λ a b e. ranked a b Equal (sym e)) c.in-Err.i c.index.result.now c.in-Err.ensures.refused.0 (subst (KeysNeverDescend nat_cmp) (sym is) c.requires.sections) c.in-Err.ensures.falls in
    let key = ap borrowed_index (ap (λ l. get_or l c.in-Err.i c.index.result.now) c.as_slice.ensures.value ∙ sym c.index.ensures) in
    subst (λ l. HasTwice l (borrowed_index c.index.result.now)) is (subst (HasTwice (placed items)) key twice)

pub returns-in-Err-names-clause-refused : goal.returns-in-Err-names-clause-refused
returns-in-Err-names-clause-refused c =
    subst (λ l. HasTwice l c.in-Err-names.field-0.name.now) (ap named c.as_slice-2.ensures.value ∙ ap (λ l. l.definitions) c.self.view_is) (c.in-Err-names.ensures.refused)

pub returns-in-Err-names-2-clause-refused : goal.returns-in-Err-names-2-clause-refused
returns-in-Err-names-2-clause-refused c =
    subst (λ l. HasTwice l c.in-Err-names-2.field-0.name.now) (ap named c.as_slice-3.ensures.value ∙ ap (λ l. l.linkage) c.self.view_is) (c.in-Err-names-2.ensures.refused)

pub returns-in-Err-names-3-clause-refused : goal.returns-in-Err-names-3-clause-refused
returns-in-Err-names-3-clause-refused c =
    subst (λ l. HasTwice l c.in-Err-names-3.field-0.name.now) (ap named c.as_slice-4.ensures.value ∙ ap (λ l. l.table) c.self.view_is) (c.in-Err-names-3.ensures.refused)

pub returns-in-Err-names-4-clause-refused : goal.returns-in-Err-names-4-clause-refused
returns-in-Err-names-4-clause-refused c =
    subst (λ l. HasTwice l c.in-Err-names-4.field-0.name.now) (ap named c.as_slice-5.ensures.value ∙ ap (λ l. l.thread) c.self.view_is) (c.in-Err-names-4.ensures.refused)
