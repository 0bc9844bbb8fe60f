-- A source from which nothing was requested, with the limit that is set on it.
use Rattle.std.proofs.Common.{Some, ap, ◌∙◌}
use Rattle.elf_source.specs.Source.{SourceState, honest}
use Rattle.elf_capi.proofs.BudgetLaws.{first_limit}
use Rattle.elf_capi.proofs.file_source.file_within.Goals as goal

pub returns : goal.returns
returns c =
    let set = c.limit.ensures in
    record {
      known = ap (λ (s : SourceState). s.file) (set.seen ∙ c.new-src.ensures.seen) ∙ ap Some c.new.ensures;
      source = set.source ∙ c.new-src.ensures.source ∙ ap honest c.new.ensures;
      shows = set.hides ∙ c.new-src.ensures.shows;
      unasked = set.asked ∙ c.new-src.ensures.asked;
      limit = first_limit c.args.budget c.new-src.result c.limit.new.self set c.new-src.ensures.asked;
    }
