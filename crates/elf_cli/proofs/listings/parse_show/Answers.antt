use Rattle.std.proofs.Common.{inr}
use Rattle.std.proofs.lemmas.Result.{IfErr-weaker, IfOk-weaker}
use Rattle.elf_cli.proofs.listings.parse_show.Goals as goal

pub returns-clause-asked : goal.returns-clause-asked
returns-clause-asked g c = IfOk-weaker c.listed_by.result _ _ (λ args lists. (_, c.in_ok-matches.ensures.read, lists)) c.listed_by.ensures.asked

pub returns-clause-refused : goal.returns-clause-refused
returns-clause-refused g c = IfErr-weaker c.listed_by.result _ _ (λ reported is. inr (_, c.in_ok-matches.ensures.read, is)) c.listed_by.ensures.refused
