use Rattle.std.proofs.Common.{sym, subst, Option, ℕ, arith}
use Rattle.std.proofs.lemmas.Result.{err_from_is_err_and}
use Rattle.elf_resolve.specs.KeyChains.{IsListFrom}
use Rattle.elf_resolve.proofs.ListShownLaws.{list_begun, list_ended, list_fails, list_more, list_turned}
use Rattle.elf_resolve.proofs.list_lines.show_offers.Goals as goal

pub loop-turn-init : goal.loop-turn-init
loop-turn-init g c = λ from count numbers are follows fits. list_begun _ _ numbers _ _ (subst (λ (first : Option ℕ). IsListFrom c.args.link.now.offers first numbers) (sym c.first-next.ensures) follows) fits

pub returns-in_err-show_number : goal.returns-in_err-show_number
returns-in_err-show_number g c =
    let p = err_from_is_err_and c.from_residual.result c.from_residual.ensures.1 in
    rw (p.1, p.2)
    (record {
      writes = λ from count numbers are follows fits.
          list_fails _ _ numbers _ _ _ _ (c.loop-turn.invariant from count numbers are follows fits) c.in-Some.number _ _ c.in-Some.is (c.in_err-show_number.ensures.puts from count are);
    })

pub loop-turn-preserved : goal.loop-turn-preserved
loop-turn-preserved g c = λ from count numbers are follows fits.
    rw (c.after-next.ensures)
    (list_more _ _ numbers _ _ _ _ (c.loop-turn.invariant from count numbers are follows fits) c.in-Some.number _ c.in-Some.is (c.in_ok-show_number.ensures.puts from count are).0)

pub returns-in_default : goal.returns-in_default
returns-in_default g c = record { writes = λ from count numbers are follows fits. list_ended _ _ numbers _ _ _ _ (c.loop-turn.invariant from count numbers are follows fits) c.in_default.is }

pub returns-after-loop-turn : goal.returns-after-loop-turn
returns-after-loop-turn g c = record {
  writes = λ from count numbers are follows fits. list_turned _ _ numbers _ _ _ _ (c.loop-turn.invariant from count numbers are follows fits) (omega (arith, c.loop-turn-test.false, c.most-turn-end.ensures));
}
