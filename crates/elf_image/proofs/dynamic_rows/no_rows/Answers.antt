-- No tag has an entry.
use Rattle.elf_model.specs.ImageChecks.{image_tags}
use Rattle.elf_image.proofs.RowSteps.{empty_in}
use Rattle.elf_image.proofs.dynamic_rows.no_rows.Goals as goal

pub returns-clause-none : goal.returns-clause-none
unfolding image_tags
returns-clause-none c = λ tag. empty_in image_tags tag
