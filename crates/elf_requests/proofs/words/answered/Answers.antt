use Rattle.std.proofs.Common.{inr}
use Rattle.std.proofs.lemmas.Result.{IfErr-weaker, IfOk-weaker}
use Rattle.elf_requests.proofs.words.answered.Goals as goal

pub returns-clause-asked : goal.returns-clause-asked
returns-clause-asked c = IfOk-weaker c.checked.result _ _ (λ asked made. (_, c.in_ok-args.ensures.read, made.0, made.1)) c.checked.ensures.asked

pub returns-clause-refused : goal.returns-clause-refused
returns-clause-refused c = IfErr-weaker c.checked.result _ _ (λ fault has. inr (_, c.in_ok-args.ensures.read, has)) c.checked.ensures.refused
