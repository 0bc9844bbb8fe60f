-- One more name, if those before it are not enough.
use Rattle.std.proofs.Common.{rules, arith, sym, subst}
use Rattle.std.proofs.lemmas.Grind.{common_steps}
use Rattle.elf_walk.specs.Held.{IsWithinKept}
use Rattle.elf_walk.proofs.RoomLaws.{few_more}
use Rattle.elf_walk.proofs.batch.put_first.Goals as goal

pub loop-i-preserved : goal.loop-i-preserved
loop-i-preserved c = record {
  front = grind (arith, common_steps);
  within = subst IsWithinKept (sym c.in_ok-push.ensures.pushed) (few_more c.loop-i.to c.in-Some.name.now (λ some. c.is_enough.ensures.few (search rules) some) c.in_ok-push.ensures.short);
}
