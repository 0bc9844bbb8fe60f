use Rattle.std.proofs.Common.{◌<◌, length, arith}
use Rattle.std.proofs.lemmas.Result.{err_from_is_err_and}
use Rattle.elf_resolve.proofs.ShownLaws.{missing_at, row_fails, row_more, rows_ended}
use Rattle.elf_resolve.proofs.lines.show_rows.Goals as goal

pub returns-in_err-show_if_chosen-clause-writes : goal.returns-in_err-show_if_chosen-clause-writes
returns-in_err-show_if_chosen-clause-writes g c =
    let p = err_from_is_err_and c.from_residual.result c.from_residual.ensures.1 in
    rw (p.1, p.2)
    (λ names named.
    let link = c.args.link.now in
    let i = c.loop-index.index in
    let there : i < length link.link.rows.rows = omega (arith, c.loop-index-test.true, c.len-index-end.ensures) in
    row_fails (g.F.InputFiles.text c.args.files.now) c.args.problems g.R.Render.FORMAT names link c.rows-rows.result.now c.rows-rows.ensures.rows named i _ c.args.out.now c.loop-index.out c.show_if_chosen.new.out c.in_err-show_if_chosen.field-0.0 there
    (c.loop-index.invariant.shown names named) c.in_err-show_if_chosen.ensures.writes)

pub loop-index-preserved : goal.loop-index-preserved
loop-index-preserved g c =
    let link = c.args.link.now in
    let i = c.loop-index.index in
    let there : i < length link.link.rows.rows = omega (arith, c.loop-index-test.true, c.len-index-end.ensures) in
    record {
      missing = rw (c.either-missing.ensures) (missing_at link.link.rows.rows c.rows-rows.result.now i _ c.loop-index.missing c.is_missing.result c.rows-rows.ensures.rows there c.loop-index.invariant.missing c.is_missing.ensures);
      shown = λ names named.
          row_more (g.F.InputFiles.text c.args.files.now) c.args.problems g.R.Render.FORMAT names link c.rows-rows.result.now c.rows-rows.ensures.rows named i _ c.args.out.now c.loop-index.out c.show_if_chosen.new.out there
          (c.loop-index.invariant.shown names named) c.in_ok-show_if_chosen.ensures.writes;
    }

pub returns-clause-writes : goal.returns-clause-writes
returns-clause-writes g c = λ names named.
    let link = c.args.link.now in
    rows_ended c.args.problems g.R.Render.FORMAT names link link.link.rows.rows c.loop-index.index c.args.out.now c.loop-index.out (omega (arith, c.loop-index-test.false, c.len-index-end.ensures)) (c.loop-index.invariant.shown names named)
