use Rattle.std.proofs.Common.{ap, ◌∙◌}
use Rattle.elf_source.specs.Source.{SourceState}
use Rattle.elf_resolve.specs.LinkMembers.{file_of_range}
use Rattle.elf_resolve.proofs.ReadBudgetLaws.{limit_is_all}
use Rattle.elf_resolve.proofs.budgeted_files.BudgetedFiles.open.Goals as goal

pub returns-in-Ok-clause-opens : goal.returns-in-Ok-clause-opens
returns-in-Ok-clause-opens g c = λ file known.
    let seen = c.limit.ensures.seen ∙ c.new-src.ensures.seen in
    let source = c.in-Ok.ensures.opens file known in
    (ap (λ (s : SourceState). s.file) seen ∙ c.new.ensures.file ∙ source, ap file_of_range seen ∙ ap (λ (s : SourceState). s.file) c.new.ensures.below ∙ source)

pub returns-in-Ok-clause-within : goal.returns-in-Ok-clause-within
returns-in-Ok-clause-within g c = (
  c.limit.ensures.most ∙ limit_is_all c.new-src.result.asked c.take_left.result c.new-src.ensures.asked c.limit.ensures.small ∙ c.take_left.ensures.left,
  c.limit.ensures.asked ∙ c.new-src.ensures.asked,
  c.take_left.ensures.takes,
)
