use Rattle.std.proofs.Common.{◌++◌, ap, subst, ◌∙◌, sym}
use Rattle.elf_resolve.specs.SectionGroups.{sections_of_words}
use Rattle.elf_resolve.specs.SectionMarks.{MarksDropped}
use Rattle.elf_resolve.proofs.SectionGroupLaws.{held_words}
use Rattle.elf_resolve.proofs.section_groups.mark_dropped.Goals as goal

pub returns-in-Words : goal.returns-in-Words
returns-in-Words c = λ count before sections held marked.
    let h = held_words c.args.strings.now.bytes c.args.section c.in-Words.words c.args.dropped sections c.in-Words.is held in
    let same = ap (λ w. before ++ sections_of_words w) (c.bytes.ensures h.0 h.1) ∙ ap (λ s. before ++ s) (sym h.2) in
    subst (MarksDropped count c.mark_words.new.marks) same (c.mark_words.ensures count before marked)
