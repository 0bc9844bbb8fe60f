-- Entries without addends, and then the kind of the calls.
use Rattle.std.proofs.Common.{ap, ◌∙◌}
use Rattle.elf_model.specs.Checks.{first_refusal}
use Rattle.elf_model.proofs.CheckSteps.{first_refusal-none, first_refusal-some}
use Rattle.elf_image.specs.Located.{kind_row_checks, plain_checks}
use Rattle.elf_image.proofs.TableSteps.{addend_checks_are, call_entries, plain_entries}
use Rattle.elf_image.proofs.tables.unsupported_row.Goals as goal

pub returns-in-Some : goal.returns-in-Some
returns-in-Some c = λ file at are.
    ap first_refusal (addend_checks_are file at)
    ∙ first_refusal-some (plain_checks file at) (kind_row_checks file at) _ (c.in-Some.ensures file at (plain_entries file at c.args.rows.now are))

pub returns : goal.returns
returns c = λ file at are.
    ap first_refusal (addend_checks_are file at)
    ∙ (first_refusal-none (plain_checks file at) (kind_row_checks file at) (c.in_default.ensures file at (plain_entries file at c.args.rows.now are))
    ∙ c.other_kind_row.ensures file at (call_entries file at c.args.rows.now are))
