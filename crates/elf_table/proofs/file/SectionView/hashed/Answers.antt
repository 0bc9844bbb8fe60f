-- The checks are those of the section header, and the symbols are those that it links to.
use Rattle.std.proofs.Common.{ap, refl, ◌∙◌}
use Rattle.std.proofs.lemmas.Result.{err_from_is_err_and}
use Rattle.elf_model.specs.Records.{section_at}
use Rattle.elf_table.proofs.HashSectionLaws.{front_refused, place_is, symbols_hashed, symbols_refused}
use Rattle.elf_table.proofs.file.SectionView.hashed.Goals as goal

pub returns-in-Some-clause-held : goal.returns-in-Some-clause-held
returns-in-Some-clause-held c = λ bytes belongs.
    let is = c.section-header.ensures.is_at bytes belongs in
    let place = c.place-place.ensures.value ∙ place_is bytes c.args.section _ _ belongs in
    front_refused c.args.least bytes _ _ 0 _ _ _ is (c.size-size.ensures ∙ belongs.size) (c.links_to_symbols-linked.ensures.held bytes _ belongs) (c.holds_wide_words-wide.ensures bytes _ belongs is) _ (rw place at c.in-Some.ensures.refusal)

pub returns-in_err-symbols-clause-held : goal.returns-in_err-symbols-clause-held
returns-in_err-symbols-clause-held c = λ bytes belongs.
    let p = err_from_is_err_and c.from_residual.result c.from_residual.ensures.1 in
    let is = c.section-header.ensures.is_at bytes belongs in
    let place = c.place-place.ensures.value ∙ place_is bytes c.args.section _ _ belongs in
    rw (p.1, p.2)
    (symbols_refused c.args.least bytes _ _ _ _ _ _ is (c.size-size.ensures ∙ belongs.size) (c.links_to_symbols-linked.ensures.held bytes _ belongs) (c.holds_wide_words-wide.ensures bytes _ belongs is) (rw place at c.in_default.ensures.refusal) (ap (section_at bytes) is.sh_link) _ (c.in_err-symbols.ensures.held bytes belongs))

pub returns-clause-held : goal.returns-clause-held
returns-clause-held c = λ bytes belongs.
    let is = c.section-header.ensures.is_at bytes belongs in
    let place = c.place-place.ensures.value ∙ place_is bytes c.args.section _ _ belongs in
    symbols_hashed c.args.least bytes _ _ _ _ _ _ is (c.size-size.ensures ∙ belongs.size) (c.links_to_symbols-linked.ensures.held bytes _ belongs) (c.holds_wide_words-wide.ensures bytes _ belongs is) (rw place at c.in_default.ensures.refusal) (ap (section_at bytes) is.sh_link) _ _ refl (c.in_ok-symbols.ensures.held bytes belongs)
