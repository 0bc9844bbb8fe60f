-- What the run did ends the program.
use Rattle.std.proofs.Common.{◌∙◌, ap, subst, sym}
use Rattle.std.specs.Io.Buffered.{writer_contents}
use Rattle.elf_source.specs.Source.{SourceState}
use Rattle.elfsee.specs.Ends.{EndsTask}
use Rattle.elfsee.proofs.write_answer.Goals as goal

pub returns : goal.returns
returns g c =
    let ran = c.run-answer in
    record {
      old = c.new-src.result;
      new = ran.new.src;
      same_size = ap (λ (s : SourceState). s.size) c.new-src.ensures.seen;
      same_file = ap (λ (s : SourceState). s.file) c.new-src.ensures.seen;
      unasked = c.new-src.ensures.asked;
      before = c.new-out.result;
      after = ran.new.out;
      answer = ran.result;
      begins = c.new-out.ensures.taken ∙ ap (writer_contents g.W.Write.contents) c.new.ensures.writer;
      did = ran.ensures.runs;
      last = c.into_inner-2.result;
      is_at = sym (ap (writer_contents g.W.Write.contents) c.into_inner-2.ensures ∙ c.into_inner.ensures.taken);
      ends = subst (λ failed. EndsTask c.args.request.now.task ran.result failed c.task_ending-ending.result.0 c.task_ending-ending.result.1.now) c.failed.ensures c.task_ending-ending.ensures;
      rest = c.end_answer-output.ensures.rest;
    }
