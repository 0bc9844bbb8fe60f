use Rattle.std.proofs.Common.{inr}
use Rattle.std.proofs.lemmas.Result.{IfErr-weaker, IfOk-weaker}
use Rattle.elf_requests.proofs.words.request.Goals as goal

pub returns-clause-asked : goal.returns-clause-asked
returns-clause-asked g c = IfOk-weaker c.answered.result _ _ (λ asked asks. (_, c.in_ok-matches.ensures.read, asks)) c.answered.ensures.asked

pub returns-clause-refused : goal.returns-clause-refused
returns-clause-refused g c = IfErr-weaker c.answered.result _ _ (λ fault refusal. inr (_, c.in_ok-matches.ensures.read, refusal)) c.answered.ensures.refused
