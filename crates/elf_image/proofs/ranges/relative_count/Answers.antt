-- The value of the entry, if there is one.
use Rattle.std.proofs.Common.{sym, ◌∙◌}
use Rattle.elf_image.proofs.TableSteps.{address_value, no_value, relative_entry}
use Rattle.elf_image.proofs.ranges.relative_count.Goals as goal

pub returns-in-Some : goal.returns-in-Some
returns-in-Some c = λ file at are. sym (address_value file at 0x6ffffff9 c.in-Some.row (sym c.in-Some.is ∙ relative_entry file at c.args.rows.now are))

pub returns-in-None : goal.returns-in-None
returns-in-None c = λ file at are. sym (no_value file at 0x6ffffff9 (sym c.in-None.is ∙ relative_entry file at c.args.rows.now are))
