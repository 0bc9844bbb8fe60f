-- The lines are written one after the other.
use Rattle.std.proofs.lemmas.Result.{err_from_is_err_and}
use Rattle.elf_source.proofs.GrowthLaws.{grows_put, grows_then}
use Rattle.elf_source.proofs.PutsLaws.{SinkTakesPrefix-more}
use Rattle.elf_requests.proofs.TaskLaws.{front_then}
use Rattle.elf_requests.proofs.resolve_request.show_resolved.Goals as goal

pub returns-in_err-show_found-in-Found-clause-grows : goal.returns-in_err-show_found-in-Found-clause-grows
returns-in_err-show_found-in-Found-clause-grows g c = c.show_found.ensures.grows

pub returns-in_err-show_steps-in-Found-clause-grows : goal.returns-in_err-show_steps-in-Found-clause-grows
returns-in_err-show_steps-in-Found-clause-grows g c = grows_then c.show_found.ensures.grows (grows_put _ _ c.show_steps.ensures.puts)

pub returns-in_ok-show_steps-in-Found-clause-grows : goal.returns-in_ok-show_steps-in-Found-clause-grows
returns-in_ok-show_steps-in-Found-clause-grows g c = grows_then c.show_found.ensures.grows (grows_put _ _ c.show_steps.ensures.puts)

pub returns-in_err-show_found-in-Found-clause-text : goal.returns-in_err-show_found-in-Found-clause-text
returns-in_err-show_found-in-Found-clause-text g c = λ file looked answers.
    let p = err_from_is_err_and c.from_residual.result c.from_residual.ensures.1 in
    let found = rw c.in-Found.is at answers in
    let puts = c.in_err-show_found-in-Found.ensures.puts file found.0 found.2 found.4 in
    rw (p.1, p.2, found.1, found.3) (SinkTakesPrefix-more _ _ puts.0)

pub returns-in_err-show_steps-in-Found-clause-text : goal.returns-in_err-show_steps-in-Found-clause-text
returns-in_err-show_steps-in-Found-clause-text g c = λ file looked answers.
    let p = err_from_is_err_and c.from_residual-in_err-show_steps-in-Found.result c.from_residual-in_err-show_steps-in-Found.ensures.1 in
    let found = rw c.in-Found.is at answers in
    let puts = c.in_ok-show_found-in-Found.ensures.puts file found.0 found.2 found.4 in
    rw (p.1, p.2, found.1, found.3) (front_then _ _ puts.0 c.in_err-show_steps-in-Found.ensures.puts.0)
