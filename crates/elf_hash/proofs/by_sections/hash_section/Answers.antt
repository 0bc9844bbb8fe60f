-- The first GNU_HASH section, otherwise the first HASH section.
use Rattle.std.proofs.Common.{sym, ◌∙◌}
use Rattle.elf_table.proofs.Absent.{none-of}
use Rattle.elf_hash.proofs.SectionLaws.{gnu_first, none_first, sysv_first}
use Rattle.elf_hash.proofs.by_sections.hash_section.Goals as goal

pub returns-in-Some-clause-held : goal.returns-in-Some-clause-held
returns-in-Some-clause-held c = λ bytes belongs. gnu_first bytes _ (sym (c.first.ensures.held bytes belongs) ∙ c.in-Some.is)

pub returns-in_default-first-clause-held : goal.returns-in_default-first-clause-held
returns-in_default-first-clause-held c = λ bytes belongs.
    none_first bytes (sym (c.first.ensures.held bytes belongs) ∙ none-of c.first.result c.in_default.not-Some)
    (sym (c.first-2.ensures.held bytes belongs) ∙ none-of c.first-2.result c.in_default-first.not-Some)

pub returns-clause-held : goal.returns-clause-held
returns-clause-held c = λ bytes belongs.
    sysv_first bytes _ (sym (c.first.ensures.held bytes belongs) ∙ none-of c.first.result c.in_default.not-Some)
    (sym (c.first-2.ensures.held bytes belongs) ∙ c.in-Some-first.is)
