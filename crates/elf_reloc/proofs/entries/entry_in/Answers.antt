-- The section is checked test by test.
use Rattle.std.proofs.Common.{sym, ◌∙◌}
use Rattle.elf_model.specs.Records.{section_at}
use Rattle.elf_reloc.proofs.EntryLaws.{not_applied, not_passed, not_there, row_is, row_some, there}
use Rattle.elf_reloc.proofs.entries.entry_in.Goals as goal

pub returns-then-not-applies_to-clause-has : goal.returns-then-not-applies_to-clause-has
returns-then-not-applies_to-clause-has c = λ bytes belongs.
    let header = section_at bytes c.args.index in
    not_applied bytes c.args.section c.args.rela header (sym (c.applies_to.ensures bytes header (c.section.ensures.is_at bytes belongs)) ∙ c.if-not-applies_to.true)

pub returns-then-not-has_row-clause-has : goal.returns-then-not-has_row-clause-has
returns-then-not-has_row-clause-has c = λ bytes belongs.
    let header = section_at bytes c.args.index in
    let found = c.in-Ok.ensures.held bytes belongs in
    not_there bytes c.args.section c.args.rela header
    (sym (row_is bytes header c.args.rela c.in-Ok.found.0 found.placed found.counted c.in-Ok.ensures.entry) ∙ sym c.has_row.ensures ∙ c.if-not-has_row.true)

pub returns-else-not-has_row-clause-has : goal.returns-else-not-has_row-clause-has
returns-else-not-has_row-clause-has c = λ bytes belongs.
    let header = section_at bytes c.args.index in
    let found = c.in-Ok.ensures.held bytes belongs in
    let has = sym c.has_row.ensures ∙ c.if-not-has_row.false in (
      there bytes c.args.section c.args.rela header (sym (c.applies_to.ensures bytes header (c.section.ensures.is_at bytes belongs)) ∙ c.if-not-applies_to.false) found.pass
          (sym (row_is bytes header c.args.rela c.in-Ok.found.0 found.placed found.counted c.in-Ok.ensures.entry) ∙ has),
      found.refers (row_some c.in-Ok.found.0 c.args.rela has),
    )

pub returns-in-Err-clause-has : goal.returns-in-Err-clause-has
returns-in-Err-clause-has c = λ bytes belongs.
    not_passed bytes c.args.section c.args.rela (section_at bytes c.args.index) c.in-Err.field-0 (c.in-Err.ensures.held bytes belongs)
