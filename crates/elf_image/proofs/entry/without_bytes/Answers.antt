-- An item is missing, or the value is refused.
use Rattle.std.proofs.Common.{sym, ◌∙◌}
use Rattle.elf_image.proofs.EntrySteps.{lacks_item, refuses_other, refuses_whole}
use Rattle.elf_image.proofs.entry.without_bytes.Goals as goal
use Rattle.elf_image.proofs.entry.without_bytes.Goals.{else-image-via-then-image+else-is_lack, else-image-via-else-image}

pub returns-then-is_lack-clause-change : goal.returns-then-is_lack-clause-change
returns-then-is_lack-clause-change c = λ source size.
    (c.if-image.true, lacks_item source c.args.at size c.args.cause (sym c.is_lack.ensures ∙ c.if-is_lack.true))

pub returns-clause-change : goal.returns-clause-change
returns-clause-change c = λ source size.
    rw c.refused.ensures (λ other.
    elim c.else-image.branch [
      | else-image-via-then-image+else-is_lack w ↦ refuses_other source c.args.at size c.args.cause c.args.image.now.leaves (sym w.is_lack.ensures ∙ w.if-is_lack.false)
      | else-image-via-else-image w ↦ refuses_whole source c.args.at size c.args.cause c.args.image.now.leaves w.if-image.false
    ])
