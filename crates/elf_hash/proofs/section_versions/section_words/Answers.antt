-- The versym entries are those of the first section of that type.
use Rattle.std.proofs.Common.{rules, sym, refl, ◌∙◌}
use Rattle.std.proofs.lemmas.Result.{err_from_is_err_and}
use Rattle.elf_table.proofs.HashSectionLaws.{place_is}
use Rattle.elf_table.proofs.Absent.{none-of}
use Rattle.elf_hash.proofs.VersionLaws.{words_are, words_none, words_refused}
use Rattle.elf_hash.proofs.SettleLaws.{finds, refuses}
use Rattle.elf_hash.proofs.section_versions.section_words.Goals as goal

pub returns-in_default : goal.returns-in_default
returns-in_default c = finds _ (search rules) (λ bytes belongs at link.
    words_none bytes at (sym (c.words_section.ensures.held bytes belongs) ∙ none-of c.words_section.result c.in_default.not-Some))

pub returns-in_err-words : goal.returns-in_err-words
returns-in_err-words c =
    let p = err_from_is_err_and c.from_residual.result c.from_residual.ensures.1 in
    rw (p.1, p.2) (refuses _ (search rules) (λ bytes belongs at link.
    (words_refused bytes at _ (sym (c.words_section.ensures.held bytes belongs) ∙ c.in-Some.is) _ (c.in_err-words.ensures.held bytes belongs))))

pub returns : goal.returns
returns c = finds _ (search rules) (λ bytes belongs at link.
    let here = (c.section.ensures.is_at bytes belongs).sh_link in
    words_are bytes at _ (sym (c.words_section.ensures.held bytes belongs) ∙ c.in-Some.is) _ (c.in_ok-words.ensures.held bytes belongs)
    (c.place-head.ensures.value ∙ place_is bytes c.in-Some.section _ _ belongs) refl (sym here ∙ (c.if-section-link.false ∙ sym link)))
