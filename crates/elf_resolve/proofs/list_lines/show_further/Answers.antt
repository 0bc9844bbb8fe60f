use Rattle.std.proofs.Common.{sym, subst, Option, ℕ, arith}
use Rattle.std.proofs.lemmas.Result.{err_from_is_err_and}
use Rattle.elf_resolve.specs.KeyChains.{IsListFrom}
use Rattle.elf_resolve.proofs.ListShownLaws.{list_begun, list_ended, list_fails, list_more, list_turned}
use Rattle.elf_resolve.proofs.list_lines.show_further.Goals as goal

pub loop-turn-init : goal.loop-turn-init
loop-turn-init g c = λ places follows fits. list_begun _ _ places _ _ (subst (λ (first : Option ℕ). IsListFrom c.args.link.now.further first places) (sym c.first-next.ensures) follows) fits

pub returns-in_err-show_place : goal.returns-in_err-show_place
returns-in_err-show_place g c =
    let p = err_from_is_err_and c.from_residual.result c.from_residual.ensures.1 in
    rw (p.1, p.2)
    (record { writes = λ places follows fits. list_fails _ _ places _ _ _ _ (c.loop-turn.invariant places follows fits) c.in-Some.place _ _ c.in-Some.is c.in_err-show_place.ensures.puts })

pub loop-turn-preserved : goal.loop-turn-preserved
loop-turn-preserved g c = λ places follows fits.
    rw (c.after-next.ensures) (list_more _ _ places _ _ _ _ (c.loop-turn.invariant places follows fits) c.in-Some.place _ c.in-Some.is c.in_ok-show_place.ensures.puts.0)

pub returns-in_default : goal.returns-in_default
returns-in_default g c = record { writes = λ places follows fits. list_ended _ _ places _ _ _ _ (c.loop-turn.invariant places follows fits) c.in_default.is }

pub returns-after-loop-turn : goal.returns-after-loop-turn
returns-after-loop-turn g c = record { writes = λ places follows fits. list_turned _ _ places _ _ _ _ (c.loop-turn.invariant places follows fits) (omega (arith, c.loop-turn-test.false, c.most-turn-end.ensures)) }
