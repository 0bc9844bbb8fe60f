use Rattle.std.proofs.Common.{sym, ◌∙◌, Ok, Err}
use Rattle.std.proofs.lemmas.Result.{err_from_is_err_and}
use Rattle.elf_resolve.proofs.KeyShownLaws.{after_multiple, after_offers, writes_still}
use Rattle.elf_resolve.proofs.key_lines.show_after.Goals as goal

pub returns-then-is_multiple : goal.returns-then-is_multiple
returns-then-is_multiple g c = record {
  writes = λ listed.
      after_multiple g.R.Render.FORMAT c.args.link.now c.args.name.now c.args.key c.args.state listed {X = Unit {0}} c.args.out.now c.show_further.new.out c.show_further.result
      (sym c.is_multiple.ensures ∙ c.if-is_multiple.true) c.show_further.ensures.writes;
}

pub returns-in_err-show_offers : goal.returns-in_err-show_offers
returns-in_err-show_offers g c =
    let p = err_from_is_err_and c.from_residual.result c.from_residual.ensures.1 in
    rw (p.1, p.2)
    (record {
      writes = λ listed.
          after_offers g.R.Render.FORMAT c.args.link.now c.args.name.now c.args.key c.args.state listed {X = Unit {0}} c.args.out.now c.show_offers.new.out (Err c.in_err-show_offers.field-0.0)
          (sym c.is_multiple.ensures ∙ c.if-is_multiple.false) (sym c.has_offers.ensures ∙ c.if-has_offers.true) c.in_err-show_offers.ensures.writes;
    })

pub returns-then-has_offers : goal.returns-then-has_offers
returns-then-has_offers g c = record {
  writes = λ listed.
      let still = c.show_spare.ensures.none (listed.spare c.args.key) in
      writes_still tt c.show_spare.result _
      (after_offers g.R.Render.FORMAT c.args.link.now c.args.name.now c.args.key c.args.state listed {X = Unit {0}} c.args.out.now c.show_offers.new.out (Ok tt)
      (sym c.is_multiple.ensures ∙ c.if-is_multiple.false) (sym c.has_offers.ensures ∙ c.if-has_offers.true) c.in_ok-show_offers.ensures.writes) still.0 still.1;
}
