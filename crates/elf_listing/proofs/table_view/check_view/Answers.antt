-- The program headers are checked if the style uses them, and otherwise not.
use Rattle.std.proofs.Common.{sym, ◌∙◌}
use Rattle.elf_options.specs.Permitted.{style_of}
use Rattle.elf_listing.proofs.ViewedLaws.{all_viewed, checked, unchecked}
use Rattle.elf_listing.proofs.table_view.check_view.Goals as goal

pub returns-then-not-is_checked-clause-checked : goal.returns-then-not-is_checked-clause-checked
returns-then-not-is_checked-clause-checked c = λ file belongs rows none.
    unchecked file (style_of c.args.style) c.args.parts.0 c.args.loaded.now c.args.store.now belongs none
    (sym c.is_checked.ensures ∙ c.if-not-is_checked.true)

pub returns-clause-checked : goal.returns-clause-checked
returns-clause-checked c = λ file belongs rows none.
    let asked = sym c.is_checked.ensures ∙ c.if-not-is_checked.false in
    let all = all_viewed c.args.style.by_segments (style_of c.args.style) c.args.parts.0 c.args.loaded.now asked in
    rw (checked file (style_of c.args.style) c.args.parts.0 c.args.loaded.now c.args.store.now belongs none asked)
    (c.check_overlaps.ensures.held file (record { belongs = belongs; count = c.requires ∙ all; rows = rows }))
