-- A link that was resolved is the definition's, and its lines are those that were written.
use Rattle.elf_model.specs.LinkArchives.{names_of_files}
use Rattle.elf_resolve.specs.Plans.{planned_files}
use Rattle.elfsee.proofs.WrittenLinks.{failure_answer, lines_answer}
use Rattle.elfsee.proofs.resolve.write_link.Goals as goal

pub returns-in-Ok-clause-answers : goal.returns-in-Ok-clause-answers
returns-in-Ok-clause-answers g c inputs path fresh static steps known ended =
    let resolved = c.in-Ok.ensures in
    let all = planned_files (g.F.InputFiles.file c.args.files.now.files) c.args.plan.now c.args.link.now.room.headers in
    let lines = c.write_lines.ensures (names_of_files all path) (λ none. resolved.listed inputs fresh static steps ended) (resolved.named inputs path fresh static steps known ended) in
    lines_answer _ _ _ _ lines.shown c.write_lines.result.1.failed lines.ends (record { links = resolved.links inputs fresh static steps ended; makes = resolved.output; lines = lines })

pub returns-in-Err-clause-answers : goal.returns-in-Err-clause-answers
returns-in-Err-clause-answers g c _ _ _ _ _ _ _ =
    rw c.failure_of.ensures (failure_answer _ _ _ c.in-Err.fault c.write_rest.ensures.1)
