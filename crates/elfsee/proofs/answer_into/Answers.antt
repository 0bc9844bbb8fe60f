-- A run over the file at the path, or over the sample.
use Rattle.std.proofs.Common.{Some, ap, ◌∙◌}
use Rattle.elfsee.proofs.answer_into.Goals as goal

pub returns-in-Ok-clause-ran : goal.returns-in-Ok-clause-ran
returns-in-Ok-clause-ran g c = record {
  seen = _;
  sample = λ none. cc none;
  ends = c.write_answer.ensures;
}

pub returns-in-None-clause-ran : goal.returns-in-None-clause-ran
returns-in-None-clause-ran g c = record {
  seen = _;
  sample = λ _. ap Some (c.new-source.ensures ∙ c.sample.ensures);
  ends = c.write_answer-in-None.ensures;
}
