-- What the listing did is what the task does.
use Rattle.std.proofs.Common.{Ok, Err}
use Rattle.std.proofs.lemmas.Result.{err_from_is_err_and}
use Rattle.elf_requests.proofs.AnswerLaws.{show_runs}
use Rattle.elf_requests.proofs.run_request.list.Goals as goal

pub returns-in_err-show-clause-runs : goal.returns-in_err-show-clause-runs
returns-in_err-show-clause-runs g c =
    let p = err_from_is_err_and c.from_residual.result c.from_residual.ensures.1 in
    rw (p.1, p.2) (show_runs _ _ (Err _) c.show.ensures.grows c.show.ensures.leaves c.in_err-show.ensures.says c.in_err-show.ensures.asks c.show.ensures.cost c.in_err-show.ensures.text)

pub returns-clause-runs : goal.returns-clause-runs
returns-clause-runs g c =
    show_runs _ _ (Ok tt) c.show.ensures.grows c.show.ensures.leaves tt c.in_ok-show.ensures.asks c.show.ensures.cost c.in_ok-show.ensures.text
