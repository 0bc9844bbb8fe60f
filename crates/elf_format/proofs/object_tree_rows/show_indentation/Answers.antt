-- The spaces of one more level, all or a prefix of them.
use Rattle.std.proofs.Common.{◌≡◌, [], codes, add-one, append-nil, arith}
use Rattle.std.proofs.lemmas.Result.{err_from_is_err_and}
use Rattle.elf_source.proofs.PutsLaws.{SinkTakes-nothing, SinkTakes-then, SinkTakesPrefix-more, SinkTakesPrefix-then}
use Rattle.elf_format.specs.NeededObjects.{indentation}
use Rattle.elf_format.proofs.PutsSteps.{puts_then}
use Rattle.elf_format.proofs.TreeText.{levels_below}
use Rattle.elf_format.proofs.object_tree_rows.show_indentation.Goals as goal

pub loop-init : goal.loop-init
unfolding indentation
loop-init g c = SinkTakes-nothing c.args.out.now

pub loop-preserved : goal.loop-preserved
unfolding indentation
loop-preserved g c = rw add-one (SinkTakes-then (indentation c.loop.counter) (codes "  ") c.loop.invariant c.in_ok-put.ensures.puts.0)

pub returns-in_err-put : goal.returns-in_err-put
returns-in_err-put g c =
    let p = err_from_is_err_and c.from_residual.result c.from_residual.ensures.1 in
    let below = levels_below c.loop.counter c.args.depth (omega (arith, c.loop-test.true)) in
    let stopped = c.in_err-put.ensures.puts in
    rw (p.1, p.2, below.1) (record { puts = (SinkTakesPrefix-more _ below.0 (SinkTakesPrefix-then (indentation c.loop.counter) (codes "  ") c.loop.invariant stopped.0), stopped.1) })

pub returns : goal.returns
returns g c =
    let all : c.args.depth ≡ c.loop.counter = omega (arith, c.loop-test.false, c.loop.auto.counter-end) in
    let written = puts_then _ (indentation c.loop.counter) [] c.put-2.result c.loop.invariant c.put-2.ensures.puts in
    let whole = append-nil (indentation c.loop.counter) in
    rw all (record { puts = rw whole at written })
