use Rattle.std.proofs.Common.{◌≡◌, ap, subst, ◌∙◌, sym}
use Rattle.std.specs.Prelude.{None, Err}
use Rattle.std.proofs.lemmas.Result.{err_from_is_err_and}
use Rattle.elf_model.specs.Checks.{first_refusal}
use Rattle.elf_model.specs.Records.{section_at}
use Rattle.elf_model.specs.declared.causes.Cause.TheVariants.{BadLink}
use Rattle.elf_model.specs.declared.link_states.LinkCause.TheVariants as cause
use Rattle.elf_resolve.specs.SectionGroups.{FindsGroup}
use Rattle.elf_table.specs.Relocations.{RefersTo, RefusedBy}
use Rattle.elf_resolve.proofs.GroupFoundLaws.{link_fault, linked_some, linked_within, makes_group, table_fault, words_fault, words_same}
use Rattle.elf_resolve.proofs.SectionGroupLaws.{place-is}
use Rattle.elf_resolve.proofs.section_groups.group_at.Goals as goal

pub returns-in_err-check_words : goal.returns-in_err-check_words
returns-in_err-check_words c = λ file viewed.
    let at = section_at file c.args.section in
    let placed = c.place-at.ensures.value ∙ place-is file c.args.view.now.loaded c.args.view.now.store.now c.args.section viewed in
    let same = words_same file at c.size.result c.place-at.result c.section-header.result (c.section-header.ensures.is_at file viewed) (c.size.ensures ∙ viewed.size) placed in
    let p = err_from_is_err_and c.from_residual.result c.from_residual.ensures.1 in
    rw (p.1, p.2) (words_fault file at c.in_err-check_words.field-0.0 (subst (λ checks. RefusedBy checks c.in_err-check_words.field-0.0) same c.in_err-check_words.ensures))

pub returns-in_err-linked : goal.returns-in_err-linked
returns-in_err-linked c = λ file viewed.
    let at = section_at file c.args.section in
    let placed = c.place-at.ensures.value ∙ place-is file c.args.view.now.loaded c.args.view.now.store.now c.args.section viewed in
    let same = words_same file at c.size.result c.place-at.result c.section-header.result (c.section-header.ensures.is_at file viewed) (c.size.ensures ∙ viewed.size) placed in
    let passes = subst (λ checks. first_refusal checks ≡ None) same c.in_ok-check_words.ensures in
    let p = err_from_is_err_and c.from_residual-in_err-linked.result c.from_residual-in_err-linked.ensures.1 in
    rw (p.1, p.2) (table_fault file at c.in_err-linked.field-0.0 passes (c.in_err-linked.ensures.held file viewed))

pub returns-in_default : goal.returns-in_default
returns-in_default c = λ file viewed.
    let at = section_at file c.args.section in
    let placed = c.place-at.ensures.value ∙ place-is file c.args.view.now.loaded c.args.view.now.store.now c.args.section viewed in
    let same = words_same file at c.size.result c.place-at.result c.section-header.result (c.section-header.ensures.is_at file viewed) (c.size.ensures ∙ viewed.size) placed in
    let passes = subst (λ checks. first_refusal checks ≡ None) same c.in_ok-check_words.ensures in
    let none = subst (RefersTo file at) c.in_default.is (c.in_ok-linked.ensures.held file viewed).1 in
    subst (FindsGroup file at) (sym c.file_refused.ensures)
    (link_fault file at passes none ∙ ap (λ p. Err (record { at = p; cause = cause.Refused BadLink })) (sym placed))

pub returns : goal.returns
returns c = λ file viewed.
    let at = section_at file c.args.section in
    let placed = c.place-at.ensures.value ∙ place-is file c.args.view.now.loaded c.args.view.now.store.now c.args.section viewed in
    let is = c.section-header.ensures.is_at file viewed in
    let same = words_same file at c.size.result c.place-at.result c.section-header.result is (c.size.ensures ∙ viewed.size) placed in
    let passes = subst (λ checks. first_refusal checks ≡ None) same c.in_ok-check_words.ensures in
    let links = c.in_ok-linked.ensures.held file viewed in
    let some = linked_some file at c.in_ok-linked.linked c.in-Some.symbols c.in-Some.is links.1 in
    makes_group file at c.place-at.result c.section-header.result c.in-Some.symbols c.group_of.result is placed passes some.0 links.0 some.1
    (linked_within c.args.view.now.loaded.size file c.in_ok-linked.linked c.in-Some.symbols viewed.size c.in-Some.is c.in_ok-linked.ensures.within)
    c.group_of.ensures
